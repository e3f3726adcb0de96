use Rattle.std.proofs.Common.{rules, ◌≡◌, ◌≤◌, ◌++◌, ◌∷◌, [], List, ℕ, length, take, arith, ap, ◌∙◌, sym}
use Rattle.std.proofs.Common.{append_assoc, append-nil, length-append}
use Rattle.std.proofs.lemmas.List.{nil_from_length, length-take}
use Rattle.m4_input.specs.Text.{joined, text_in}
use Rattle.m4_input.proofs.Joins.{joined_push, take_more, text_first}
use Rattle.m4_input.proofs.text.Text.copy_front.Goals as goal

pub segments-init : goal.segments-init
segments-init c =
    let copied : c.append_most.new.copy.items ≡ take c.args.most (c.clear.new.self.items ++ c.rest.result.now) = search rules in (
      c.self.inside.top,
      copied ∙ ap (λ (x : List ℕ). take c.args.most (x ++ c.rest.result.now)) c.clear.ensures.items ∙ ap (take c.args.most) c.rest.ensures,
      ap (λ (x : List (List ℕ)). (c.self.inside.top ++ joined x) ++ text_in (c.self.inside.file)) c.as_slice-rest.ensures.value
          ∙ sym (text_first (c.self.inside.top ++ joined c.self.inside.below.items) c.self.inside.file) ∙ ap text_in c.self.view_is,
    )

-- no more bytes than were asked for
few : (n : ℕ) (x y : List ℕ) → x ≡ take n y → length x ≤ n
few n x y h =
    let same : length x ≡ length (take n y) = ap length h in
    omega (arith, same, length-take n y)

pub append_most-requires-in-Some : goal.append_most-requires-in-Some
append_most-requires-in-Some c = few c.args.most c.segments.copy.items c.segments.invariant.0 c.segments.invariant.1

pub segments-smaller : goal.segments-smaller
segments-smaller c =
    let all : length c.segments.rest.now ≡ length (c.in-Some.others.now ++ c.in-Some.next.now ∷ []) = ap length c.in-Some.ensures.cases.0 in
    omega (arith, all, length-append c.in-Some.others.now (c.in-Some.next.now ∷ []), c.in-Some.ensures.cases.1)

pub segments-preserved : goal.segments-preserved
segments-preserved c =
    let done = c.segments.invariant.0 in
    let next : List ℕ = c.in-Some.next.now in
    let copied : c.append_most-in-Some.new.copy.items ≡ take c.args.most (c.segments.copy.items ++ c.rest-in-Some.result.now) = search rules in (
      done ++ next,
      copied ∙ ap (λ (x : List ℕ). take c.args.most (x ++ c.rest-in-Some.result.now)) c.segments.invariant.1
          ∙ take_more c.args.most done c.rest-in-Some.result.now ∙ ap (λ (x : List ℕ). take c.args.most (done ++ x)) c.rest-in-Some.ensures,
      ap (λ (x : List ℕ). x ++ text_in (c.self.inside.file))
          (append_assoc done next (joined c.in-Some.others.now) ∙ ap (λ (x : List ℕ). done ++ x) (sym (joined_push c.in-Some.others.now next))
          ∙ ap (λ (x : List (List ℕ)). done ++ joined x) (sym c.in-Some.ensures.cases.0))
          ∙ c.segments.invariant.2,
    )

pub append_most-requires-2 : goal.append_most-requires-2
append_most-requires-2 c = few c.args.most c.segments.copy.items c.segments.invariant.0 c.segments.invariant.1

pub returns-clause-bytes : goal.returns-clause-bytes
returns-clause-bytes c =
    let done = c.segments.invariant.0 in
    let copied : c.append_most-2.new.copy.items ≡ take c.args.most (c.segments.copy.items ++ c.rest-2.result.now) = search rules in
    let none : c.segments.rest.now ≡ [] = nil_from_length c.segments.rest.now c.in_default.ensures.cases in
    let f = c.self.inside.file in
    let all : done ++ text_in f ≡ text_in (c.args.self.now) = ap (λ (x : List ℕ). x ++ text_in f) (sym (append-nil done))
    ∙ ap (λ (x : List (List ℕ)). (done ++ joined x) ++ text_in f) (sym none) ∙ c.segments.invariant.2 in
    copied ∙ ap (λ (x : List ℕ). take c.args.most (x ++ c.rest-2.result.now)) c.segments.invariant.1
    ∙ take_more c.args.most done c.rest-2.result.now ∙ ap (λ (x : List ℕ). take c.args.most (done ++ x)) c.rest-2.ensures
    ∙ ap (take c.args.most) all
