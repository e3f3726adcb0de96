use Rattle.std.proofs.Common.{◌+◌, ◌<◌, Bool, ℕ, List, length, ap, subst, ◌∙◌}
use Rattle.std.specs.Prelude.{max}
use Rattle.m4_input.specs.OpenToken.{ArePlain}
use Rattle.m4_input.specs.Token.{mark_at}
use Rattle.m4_input.proofs.OpenTokens.{reached_down, reached_up, reached_past, reached_cut, reached_end}
use Rattle.m4_input.proofs.QuoteSearch.{passed_plain, passed_inside, followed}
use Rattle.m4_input.proofs.strings.follow_by_marks.Goals as goal

pub returns-then-open-eq0 : goal.returns-then-open-eq0
returns-then-open-eq0 c =
    let q = c.args.quotes.now in
    let x = c.args.text.now in
    let j = c.in-Some.plain in
    let h = subst (λ (y : List ℕ). (j < length y) × ((o : Bool) → ArePlain q o j y)) c.split_at.ensures.back c.in-Some.ensures.some in
    reached_end q c.args.may_follow c.args.depth x c.marks.open (c.marks.k + j)
    (passed_plain q c.args.may_follow c.args.depth x c.marks.open c.marks.k c.marks.invariant j (h.1 c.args.may_follow))
    (passed_inside x c.marks.k j h.0)
    (c.in-EndQuote.ensures.value ∙ ap (mark_at q c.args.may_follow) c.split_at-in-Some.ensures.back)
    c.if-open-eq0.true

pub marks-preserved-in-EndQuote : goal.marks-preserved-in-EndQuote
marks-preserved-in-EndQuote c =
    let q = c.args.quotes.now in
    let x = c.args.text.now in
    let j = c.in-Some.plain in
    let h = subst (λ (y : List ℕ). (j < length y) × ((o : Bool) → ArePlain q o j y)) c.split_at.ensures.back c.in-Some.ensures.some in
    reached_down q c.args.may_follow c.args.depth x c.marks.open (c.marks.k + j)
    (passed_plain q c.args.may_follow c.args.depth x c.marks.open c.marks.k c.marks.invariant j (h.1 c.args.may_follow))
    (passed_inside x c.marks.k j h.0) c.max-k.result
    (c.max-k.ensures ∙ ap (λ (y : List ℕ). max (length y) 1) c.as_slice.ensures)
    (c.in-EndQuote.ensures.value ∙ ap (mark_at q c.args.may_follow) c.split_at-in-Some.ensures.back)
    c.if-open-eq0.false

pub marks-preserved-in-BeginQuote : goal.marks-preserved-in-BeginQuote
marks-preserved-in-BeginQuote c =
    let q = c.args.quotes.now in
    let x = c.args.text.now in
    let j = c.in-Some.plain in
    let h = subst (λ (y : List ℕ). (j < length y) × ((o : Bool) → ArePlain q o j y)) c.split_at.ensures.back c.in-Some.ensures.some in
    rw c.as_slice-in-BeginQuote.ensures
    (reached_up q c.args.may_follow c.args.depth x c.marks.open (c.marks.k + j)
    (passed_plain q c.args.may_follow c.args.depth x c.marks.open c.marks.k c.marks.invariant j (h.1 c.args.may_follow))
    (passed_inside x c.marks.k j h.0) c.requires.begin
    (c.in-BeginQuote.ensures.value ∙ ap (mark_at q c.args.may_follow) c.split_at-in-Some.ensures.back))

pub marks-preserved : goal.marks-preserved
marks-preserved c =
    let q = c.args.quotes.now in
    let x = c.args.text.now in
    let j = c.in-Some.plain in
    let h = subst (λ (y : List ℕ). (j < length y) × ((o : Bool) → ArePlain q o j y)) c.split_at.ensures.back c.in-Some.ensures.some in
    reached_past q c.args.may_follow c.args.depth x c.marks.open (c.marks.k + j)
    (passed_plain q c.args.may_follow c.args.depth x c.marks.open c.marks.k c.marks.invariant j (h.1 c.args.may_follow))
    (passed_inside x c.marks.k j h.0)
    (c.in-PlainByte.ensures.value ∙ ap (mark_at q c.args.may_follow) c.split_at-in-Some.ensures.back)

pub returns-in-CutQuote : goal.returns-in-CutQuote
returns-in-CutQuote c =
    let q = c.args.quotes.now in
    let x = c.args.text.now in
    let j = c.in-Some.plain in
    let h = subst (λ (y : List ℕ). (j < length y) × ((o : Bool) → ArePlain q o j y)) c.split_at.ensures.back c.in-Some.ensures.some in
    reached_cut q c.args.may_follow c.args.depth x c.marks.open (c.marks.k + j)
    (passed_plain q c.args.may_follow c.args.depth x c.marks.open c.marks.k c.marks.invariant j (h.1 c.args.may_follow))
    (passed_inside x c.marks.k j h.0)
    (c.in-CutQuote.ensures.value ∙ ap (mark_at q c.args.may_follow) c.split_at-in-Some.ensures.back)

pub returns : goal.returns
returns c =
    let q = c.args.quotes.now in
    followed q c.args.may_follow c.args.depth c.args.text.now c.marks.open c.marks.k c.marks.invariant
    (subst (λ (y : List ℕ). ArePlain q c.args.may_follow (length y) y) c.split_at.ensures.back (c.in_default.ensures.none c.args.may_follow))
