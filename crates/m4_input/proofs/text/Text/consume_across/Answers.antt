use Rattle.std.proofs.Common.{◌≡◌, ◌+◌, ◌-◌, ◌++◌, [], List, ℕ, length, ap, ◌∙◌, sym, arith, length-append}
use Rattle.std.proofs.lemmas.List.{nil_from_length}
use Rattle.m4_input.specs.Text.{joined, with_text, text_in, text_after}
use Rattle.m4_input.specs.TextView.{view_of}
use Rattle.m4_input.proofs.Joins.{joined_push, joined_length, text_first, first_taken}
use Rattle.m4_input.proofs.text.Text.consume_across.Goals as goal

pub overflow_sub-self : goal.overflow_sub-self
overflow_sub-self c =
    let long : length (joined (c.segments.self-inside.below.items)) ≡ length c.in-Some.next + length (joined c.pop.new.self.items) =
    ap (λ (x : List (List ℕ)). length (joined x)) c.in-Some.ensures.items ∙ joined_length c.pop.new.self.items c.in-Some.next in
    omega (arith, long, c.len-in-segments.ensures.len, c.segments.invariant)

pub segments-preserved : goal.segments-preserved
segments-preserved c =
    let s = c.segments.self-inside in
    let f = s.file in
    let left = c.segments.left in
    let top : c.replace-spent-in-segments.new.dest ≡ c.in-Some.next = c.replace-spent-in-segments.ensures.after in
    let rests : joined s.below.items ≡ c.in-Some.next ++ joined c.pop.new.self.items = ap joined c.in-Some.ensures.items
    ∙ joined_push c.pop.new.self.items c.in-Some.next in
    let long : length (joined s.below.items) ≡ length c.in-Some.next + length (joined c.pop.new.self.items) =
    ap length rests ∙ length-append c.in-Some.next (joined c.pop.new.self.items) in
    let all : length (text_in (view_of s)) ≡ (length s.top + length (joined s.below.items)) + length (text_in f) =
    ap length (text_first (s.top ++ joined s.below.items) f) ∙ length-append (s.top ++ joined s.below.items) (text_in f)
    ∙ ap (λ m. m + length (text_in f)) (length-append s.top (joined s.below.items)) in
    let now : c.replace-spent-in-segments.new.dest ++ joined c.pop.new.self.items ≡ joined s.below.items =
    ap (λ (x : List ℕ). x ++ joined c.pop.new.self.items) top ∙ sym rests in
    let new : length (text_in (with_text (c.replace-spent-in-segments.new.dest ++ joined c.pop.new.self.items) f))
    ≡ length (joined s.below.items) + length (text_in f) =
    ap (λ (x : List ℕ). length (text_in (with_text x f))) now ∙ ap length (text_first (joined s.below.items) f)
    ∙ length-append (joined s.below.items) (text_in f) in (
      ap (λ (x : List ℕ). text_after (left - c.len-left.result) (with_text x f)) now
          ∙ ap (λ m. text_after (left - m) (with_text (joined s.below.items) f)) c.len-left.ensures.len
          ∙ first_taken s.top (joined s.below.items) f left
          (omega (arith, c.segments-test.true, c.len.ensures.len, c.len-left.ensures.len)) ∙ c.segments.invariant.0,
      omega (arith, new, all, c.segments.invariant, c.len-left.ensures.len),
      (omega (arith, long, c.len-in-segments.ensures.len, c.segments.invariant), omega (arith, long, c.len-in-segments.ensures.len, c.segments.invariant)),
    )

pub returns-in_default : goal.returns-in_default
returns-in_default c =
    let s = c.segments.self-inside in
    let f = s.file in
    let left = c.segments.left in
    let empty : c.pop.new.self.items ≡ [] = nil_from_length c.pop.new.self.items (omega (arith, c.in_default.ensures.cases)) in
    let gone : s.below.items ≡ [] = c.in_default.ensures.items ∙ ap (λ (x : List (List ℕ)). x ++ []) empty in
    ap (λ (x : List ℕ). with_text (x ++ joined c.pop.new.self.items) c.consume.new.self) (c.replace-spent.ensures.after ∙ c.of.ensures ∙ c.empty.ensures)
    ∙ ap (λ (x : List (List ℕ)). with_text (joined x) c.consume.new.self) empty
    ∙ c.consume.ensures
    ∙ ap (λ m. text_after (left - m) f) c.len-left.ensures.len
    ∙ ap (λ (x : List (List ℕ)). text_after (left - length s.top) (with_text (joined x) f)) (sym gone)
    ∙ first_taken s.top (joined s.below.items) f left (omega (arith, c.segments-test.true, c.len.ensures.len, c.len-left.ensures.len)) ∙ c.segments.invariant.0
