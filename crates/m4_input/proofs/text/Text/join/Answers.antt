use Rattle.std.proofs.Common.{◌≡◌, ◌++◌, ◌+◌, ◌-◌, [], List, ℕ, suc, length, take, ap, sym, refl, ◌∙◌, arith, append_assoc, length-append}
use Rattle.std.proofs.Math.ListN.{set}
use Rattle.std.proofs.lemmas.List.{nil_from_length}
use Rattle.std.specs.Vec.{vec_len}
use Rattle.m4_input.specs.Text.{joined, with_text}
use Rattle.m4_input.proofs.Joins.{last_below, last_put}
use Rattle.m4_input.proofs.text.Text.join.Goals as goal

pub overflow_sub-self : goal.overflow_sub-self
overflow_sub-self c =
    let below : List (List ℕ) = c.self.inside.below.items in
    let i : ℕ = vec_len c.self.inside.below - 1 in
    let s : List ℕ = c.in-Some.next.now in
    let l : suc i ≡ length below = search (arith, c.in-Some.ensures.item) in
    let front : List (List ℕ) = take i (set below i s) in
    let whole : length (joined below) ≡ length s + length (joined front) =
    ap length (last_below below front i s s s l c.in-Some.ensures.value refl) ∙ length-append s (joined front) in
    omega (arith, whole, c.len-len.ensures.len, c.self.invariant)

pub invariant_of-self-in-Some-pop : goal.invariant_of-self-in-Some-pop
invariant_of-self-in-Some-pop c =
    let below : List (List ℕ) = c.self.inside.below.items in
    let i : ℕ = vec_len c.self.inside.below - 1 in
    let s : List ℕ = c.in-Some.next.now in
    let top : List ℕ = c.self.inside.top in
    let front : List (List ℕ) = c.pop.new.self.items in
    let l : suc i ≡ length below = search (arith, c.in-Some.ensures.item) in
    let put : c.extend_back.new.self ≡ top ++ s = c.if-not-extend_back.ensures.put refl ∙ ap (λ (x : List ℕ). x ++ s) c.rest-rest.ensures in
    let whole : length (joined below) ≡ length s + length (joined front) =
    ap length (last_below below front i s c.extend_back.new.self s l c.in-Some.ensures.value c.in-Some-pop.ensures.rest) ∙ length-append s (joined front) in
    let same : c.in-Some-pop.next ++ joined front ≡ c.extend_back.new.self ++ joined front =
    last_put below front i c.extend_back.new.self c.in-Some-pop.next l c.in-Some-pop.ensures.items
    c.in-Some-pop.ensures.rest in
    let long : length c.in-Some-pop.next + length (joined front) ≡ (length top + length s) + length (joined front) =
    sym (length-append c.in-Some-pop.next (joined front)) ∙ ap length same ∙ length-append c.extend_back.new.self (joined front)
    ∙ ap (λ (x : List ℕ). length x + length (joined front)) put ∙ ap (λ n. n + length (joined front)) (length-append top s) in (
      (omega (arith, whole, c.len-len.ensures.len, c.self.invariant), omega (arith, whole, c.len-len.ensures.len, c.self.invariant)),
      λ e.
          let none : length c.in-Some-pop.next ≡ 0 = ap length e in
          let gone : below ≡ [] = c.self.invariant.1 (nil_from_length top (omega (arith, none, long))) in
          let no : length below ≡ 0 = ap length gone in
          absurd (omega (arith, no, l)),
    )

pub returns-in-Some-pop : goal.returns-in-Some-pop
returns-in-Some-pop c =
    let below : List (List ℕ) = c.self.inside.below.items in
    let i : ℕ = vec_len c.self.inside.below - 1 in
    let s : List ℕ = c.in-Some.next.now in
    let top : List ℕ = c.self.inside.top in
    let front : List (List ℕ) = c.pop.new.self.items in
    let l : suc i ≡ length below = search (arith, c.in-Some.ensures.item) in
    let put : c.extend_back.new.self ≡ top ++ s = c.if-not-extend_back.ensures.put refl ∙ ap (λ (x : List ℕ). x ++ s) c.rest-rest.ensures in
    let same : c.in-Some-pop.next ++ joined front ≡ top ++ joined below =
    last_put below front i c.extend_back.new.self c.in-Some-pop.next l c.in-Some-pop.ensures.items c.in-Some-pop.ensures.rest
    ∙ ap (λ (x : List ℕ). x ++ joined front) put ∙ append_assoc top s (joined front)
    ∙ ap (λ (x : List ℕ). top ++ x) (sym (last_below below front i s c.extend_back.new.self s l c.in-Some.ensures.value c.in-Some-pop.ensures.rest)) in
    ap (λ (x : List ℕ). with_text x c.self.inside.file) same ∙ c.self.view_is
