-- Continues: an expansion with an open end goes on as far as its bytes decide, whatever follows them.
use Rattle.std.proofs.Common.{◌≡◌, ◌≢◌, ◌⊎◌, inl, inr, ⊎_elim, Option, ℕ, zero, suc, ◌<◌, ◌≤◌, Bool, true, false}
use Rattle.std.proofs.Common.{List, [], ◌∷◌, ◌++◌, length, Some, None, refl, sym, ap, ◌∙◌, subst, arith}
use Rattle.std.specs.Prelude.{nat_lt, ◌==◌}
use Rattle.m4_state.specs.declared.definition.Def.{Def}
use Rattle.m4_state.specs.declared.delimiters.Delimiters.{Delimiters}
use Rattle.m4_input.specs.declared.token.Token.{Token}
use Rattle.m4_input.specs.declared.token.Token.TheVariants.{Name, Str, Comment, Byte, Definition, End}
use Rattle.m4_input.specs.declared.front.Scan.{Scan}
use Rattle.m4_input.specs.declared.front.Scan.TheVariants.{Found, Broken, NeedsMore}
use Rattle.m4_input.specs.declared.front.Unended.{Unended}
use Rattle.m4_input.specs.declared.front.Answer.{Answer}
use Rattle.m4_input.specs.declared.front.Answer.TheVariants.{Yes, No, Unknown}
use Rattle.m4_input.specs.Pending.{Pending, text_of, line_length, one_longer}
use Rattle.m4_input.specs.Token.{scan, Front, Taken, Refused, More, front_by, front_from, token_at}
use Rattle.m4_input.specs.Paren.{paren_in, paren_at}
use Rattle.m4_input.proofs.Cases.{paren_from}
use Rattle.m4_state.specs.State.{top_of}
use Rattle.m4_input.specs.declared.pushed.Pushed.{Pushed}
use Rattle.m4_input.specs.declared.pushed.Pushed.TheVariants as pushes
use Rattle.m4_input.specs.Input.{longer}
use Rattle.m4_builtins.specs.Act.{needs_list}
use Rattle.m4_engine.specs.declared.ending.Cause.TheVariants as causes
use Rattle.m4_engine.specs.Nesting.{Turn, Halt, Close, GoOn, Bare, Opens, Outcome, Halted, Closed, then_on, after}
use Rattle.m4_engine.specs.Expansion.{Call, Mode, Outside, Collecting, Expansion, Kept, Ends, NeedsInput, Ended}
use Rattle.m4_engine.specs.Expansion.{place_at, with_call, reading}
use Rattle.m4_engine.specs.declared.role.Role.{Role}
use Rattle.m4_engine.specs.declared.role.Role.TheVariants.{Opening, Closing, Separator, Blank, Other}
use Rattle.m4_engine.specs.Args.{role_of, take_closing, take_byte}
use Rattle.m4_engine.specs.Expand.{with_value, skip_all, skip_line, effected, acted_at, kept_of}
use Rattle.m4_engine.specs.Expand.{after_call, called, join, call_of, bare, collect}
use Rattle.m4_engine.specs.Expand.{is_deep, take_call, take_name, take_other}
use Rattle.m4_engine.specs.Expand.{take_token, take_front, unended_cause, turn, size_of, calls_left, out_of_bound_at}
use Rattle.m4_engine.specs.Expand.{expand}
use Rattle.m4_engine.specs.Moments.{so_far_in}
use Rattle.m4_engine.proofs.Growth.{Extends, longer_level, Continues, Begins}
use Rattle.m4_input.specs.declared.front.Unended.TheVariants.{InString, InComment}
use Rattle.m4_input.proofs.Consumed.{text_longer, consumed_longer}
use Rattle.m4_input.proofs.OpenEnd.{NoEnd, scan_no_end, scan_stays, scan_fits, paren_in_stays, one_more_is}
use Rattle.m4_engine.proofs.Beside.{Follows, Fits, expansion_fits}
use Rattle.m4_engine.proofs.CallsFall.{falls, expand_is}
use Rattle.m4_engine.proofs.OnlyGrows.{extends_more, made, bare_made, skipped_keeps, on_answer_keeps, on_seen_keeps}
use Rattle.m4_engine.proofs.OnlyGrows.{whole_keeps, then_keeps, list_keeps, turn_goes}
use Rattle.m4_engine.proofs.Cases.{skip_or_push, join_by, call_unless_deep, call_if_room, call_without_list}

module _ (z : List ℕ) (b : Bool) where
  longer_seen : Front → Front
  longer_seen (Taken t p) = Taken t (longer z b p)
  longer_seen (Refused f n) = Refused f n
  longer_seen More = More

  -- one look wants more, or both see the same
  SeenStays : Front → Front → Type 0
  SeenStays v w = (v ≡ More) ⊎ (w ≡ longer_seen v)

  seen_by_stays : (p : Pending) (v w : Scan) → ((t : Token) (n : ℕ) → v ≡ Found t n → n ≤ length (text_of p))
      → (v ≡ NeedsMore) ⊎ (w ≡ v) → SeenStays (front_by p v) (front_by (longer z b p) w)
  unfolding SeenStays longer_seen
  seen_by_stays p v w h (inl e) = inl (ap (front_by p) e)
  seen_by_stays p (Found t n) w h (inr e) = inr (ap (front_by (longer z b p)) e ∙ ap (Taken t) (consumed_longer z b n p (h t n refl)))
  seen_by_stays p (Broken f) w h (inr e) = inr (ap (front_by (longer z b p)) e)
  seen_by_stays p NeedsMore w h (inr e) = inl refl

  seen_stays : (o : Option Def) (q c : Delimiters) (p : Pending) → p.may_follow ≡ true → SeenStays (front_from o q c p) (front_from o q c (longer z b p))
  unfolding SeenStays longer_seen
  seen_stays (Some d) q c p e = inr refl
  seen_stays None q c p e =
      let P : Bool → Type 0 = λ v. SeenStays (front_by p (scan q c v (text_of p))) (front_from None q c (longer z b p)) in
      subst P (sym e) (subst (λ x. SeenStays (front_by p (scan q c true (text_of p))) (front_by (longer z b p) (scan q c b x))) (sym (text_longer z b p))
      (seen_by_stays p _ _ (λ t n f. scan_fits q c (text_of p) t n f) (scan_stays q c b (text_of p) z)))

  paren_stays : (o : Option Def) (q c : Delimiters) (p : Pending) → p.may_follow ≡ true
      → (paren_from o q c p ≡ Unknown) ⊎ (paren_from o q c (longer z b p) ≡ paren_from o q c p)
  paren_stays (Some d) q c p e = inr refl
  paren_stays None q c p e =
      let P : Bool → Type 0 = λ v. (paren_in q c v (text_of p) ≡ Unknown) ⊎ (paren_in q c b (text_of (longer z b p)) ≡ paren_in q c v (text_of p)) in
      subst P (sym e) (subst (λ x. (paren_in q c true (text_of p) ≡ Unknown)
      ⊎ (paren_in q c b x ≡ paren_in q c true (text_of p))) (sym (text_longer z b p)) (paren_in_stays q c b (text_of p) z))

  -- what the turns of a level and of the longer one have to do with one another
  abbrev Meets : Turn Expansion Kept Ended → Turn Expansion Kept Ended → Type 0
  Meets (Halt d) w = ((d.reason ≡ NeedsInput) × Extends d.so_far (made w)) ⊎ ((w ≡ Halt d) × (d.reason ≢ Ends causes.Done))
  Meets (Close u) w = (w ≡ Close (longer_level z b u)) × ((u.pending).may_follow ≡ true)
  Meets (GoOn u) w = (w ≡ GoOn (longer_level z b u)) × ((u.pending).may_follow ≡ true)
  Meets (Bare u) w = (w ≡ Bare (longer_level z b u)) × ((u.pending).may_follow ≡ true)
  Meets (Opens f u) w = (w ≡ Opens f (longer_level z b u)) × ((u.pending).may_follow ≡ true)

  abbrev MeetsOut : Outcome Expansion Ended → Outcome Expansion Ended → Type 0
  MeetsOut (Halted d) w = Continues d w
  MeetsOut (Closed u) w = (w ≡ Closed (longer_level z b u)) × ((u.pending).may_follow ≡ true)

  abbrev L : Expansion → Expansion
  L s = longer_level z b s

  skipped_meets : (o o' : Option ℕ) (s : Expansion) → (s.pending).may_follow ≡ true
      → ((n : ℕ) → o ≡ Some n → (o' ≡ Some n) × (n ≤ length (text_of s.pending))) → MeetsOut (skip_line o s) (skip_line o' (L s))
  skipped_meets None o' s h f =
      let P : Bool → Type 0 = λ v. MeetsOut (skip_all v s) (skip_line o' (L s)) in
      subst P (sym h) (inl (refl, skipped_keeps o' (L s)))
  skipped_meets (Some n) o' s h f =
      let k = f n refl in
      (ap (λ o. skip_line o (L s)) k.0 ∙ ap (λ p. Closed (reading p (L s))) (consumed_longer z b n s.pending k.1), h)

  pub line_stays : (x : List ℕ) (n : ℕ) → line_length x ≡ Some n → (line_length (x ++ z) ≡ Some n) × (n ≤ length x)
  line_stays [] n e = cc
  line_stays (c ∷ x) n e =
      (elim (c == 10) as (λ v. (elim v [ true ↦ Some 1 | false ↦ one_longer (line_length x) ]) ≡ Some n
      → ((elim v [ true ↦ Some 1 | false ↦ one_longer (line_length (x ++ z)) ]) ≡ Some n) × (n ≤ length (c ∷ x))) [
        | true ↦ λ f. (f, (let m : 1 ≡ n = cc in omega arith))
        | false ↦ λ f. let h = one_more_is (line_length x) n f in let k = line_stays x h.0 h.1 in let l : h.0
            ≤ length x = k.1 in let m : n ≡ suc h.0 = h.2 in (ap one_longer k.0 ∙ sym (ap Some h.2), omega arith)
      ]) e

  pushed_same : (v : Option Pushed) (p : Pending) → with_value v (longer z b p) ≡ longer z b (with_value v p)
  pushed_same None p = refl
  pushed_same (Some (pushes.Text x)) p = refl
  pushed_same (Some (pushes.Definition d)) p = refl

  pushed_partial : (v : Option Pushed) (p : Pending) → (with_value v p).may_follow ≡ p.may_follow
  pushed_partial None p = refl
  pushed_partial (Some (pushes.Text x)) p = refl
  pushed_partial (Some (pushes.Definition d)) p = refl

  pushed_meets : (skip : Bool) (v : Option Pushed) (s : Expansion) → (s.pending).may_follow ≡ true
      → MeetsOut (skip_or_push skip v s) (skip_or_push skip v (L s))
  pushed_meets true v s h = skipped_meets (line_length (text_of s.pending)) _ s h
      (λ n e. let k = line_stays (text_of s.pending) n e in (ap line_length (text_longer z b s.pending) ∙ k.0, k.1))
  pushed_meets false v s h = (ap (λ p. Closed (reading p (L s))) (pushed_same v s.pending), pushed_partial v s.pending ∙ h)

  effected_meets : (n : Option ℕ) (skip : Bool) (v : Option Pushed) (s : Expansion) → (s.pending).may_follow ≡ true
      → MeetsOut (effected n skip v s) (effected n skip v (L s))
  effected_meets (Some n) skip v s h = inr (refl, λ e. cc)
  effected_meets None skip v s h = pushed_meets skip v s h

  called_meets : (c : Call) (t : Expansion) (k : Kept) → (t.pending).may_follow ≡ true → MeetsOut (called c t k) (called c (L t) k)
  called_meets c t k h = effected_meets ((acted_at c t).effect).exit ((acted_at c t).effect).skip ((acted_at c t).effect).push (after_call c t k) h

  bare_meets : (o o' : Outcome Expansion Ended) → MeetsOut o o' → Meets (bare o) (bare o')
  bare_meets (Halted d) o' (inl h) = inl (h.0, subst (Extends d.so_far) (sym (bare_made o')) h.1)
  bare_meets (Halted d) o' (inr e) = inr (ap bare e.0, e.1)
  bare_meets (Closed u) o' h = (ap bare h.0, h.1)

  enter_list_meets : (listed : Bool) (c : Call) (p : Pending) (s : Expansion) → p.may_follow ≡ true
      → (listed ≡ true → 0 < length (text_of p)) → Meets (collect listed c p s) (collect listed c (longer z b p) (L s))
  enter_list_meets true c p s h g = (
    ap (λ q. Opens (kept_of s)
        (record s { pending = q; open_calls = suc s.open_calls; mode = Collecting c })) (consumed_longer z b 1 p (g refl)),
    h,
  )
  enter_list_meets false c p s h g = bare_meets (called c (reading p s) (kept_of s))
      (called c (L (reading p s)) (kept_of s)) (called_meets c (reading p s) (kept_of s) h)

  enter_meets : (deep listed : Bool) (c : Call) (p : Pending) (s : Expansion) → p.may_follow ≡ true
      → (listed ≡ true → 0 < length (text_of p))
      → Meets (call_unless_deep deep listed c p s) (call_unless_deep deep listed c (longer z b p) (L s))
  enter_meets true listed c p s h g = inr (refl, λ e. cc)
  enter_meets false listed c p s h g = enter_list_meets listed c p s h g

  call_if_meets : (room listed : Bool) (c : Call) (p : Pending) (s : Expansion) → p.may_follow ≡ true
      → (listed ≡ true → 0 < length (text_of p))
      → Meets (call_if_room room listed c p s) (call_if_room room listed c (longer z b p) (L s))
  call_if_meets true listed c p s h g = enter_meets (is_deep s) listed c p (with_call s) h g
  call_if_meets false listed c p s h g = inr (refl, λ e. cc)

  unlisted_meets : (v : Bool) (c : Call) (p : Pending) (s : Expansion) → p.may_follow ≡ true
      → Meets (call_without_list v c p s) (call_without_list v c (longer z b p) (L s))
  unlisted_meets true c p s h = (refl, h)
  unlisted_meets false c p s h = call_if_meets (nat_lt (s.so_far).calls (s.limits).calls) false c p s h (λ e. cc)

  on_answer_meets : (a a' : Answer) (c : Call) (p : Pending) (s : Expansion) → p.may_follow ≡ true
      → (a ≡ Yes → 0 < length (text_of p)) → (a ≡ Unknown) ⊎ (a' ≡ a)
      → Meets (take_call a c p s) (take_call a' c (longer z b p) (L s))
  on_answer_meets Unknown a' c p s h g e = inl (refl, on_answer_keeps a' c (longer z b p) (L s))
  on_answer_meets Yes a' c p s h g (inl e) = cc
  on_answer_meets Yes a' c p s h g (inr e) =
      subst (λ x. Meets (take_call Yes c p s) (take_call x c (longer z b p) (L s))) (sym e)
      (call_if_meets (nat_lt (s.so_far).calls (s.limits).calls) true c p s h (λ _. g refl))
  on_answer_meets No a' c p s h g (inl e) = cc
  on_answer_meets No a' c p s h g (inr e) =
      subst (λ x. Meets (take_call No c p s) (take_call x c (longer z b p) (L s))) (sym e)
      (unlisted_meets (needs_list c.definition) c p s h)

  yes_text : (o : Option Def) (q c : Delimiters) (p : Pending) → paren_from o q c p ≡ Yes → 0 < length (text_of p)
  yes_text (Some d) q c p e = cc
  yes_text None q c p e = go p.may_follow (text_of p) e
    where
      go : (v : Bool) (x : List ℕ) → paren_in q c v x ≡ Yes → 0 < length x
      go true [] e = cc
      go false [] e = cc
      go v (b ∷ x) e = omega arith

  on_name_meets : (o : Option Def) (x : List ℕ) (p : Pending) (s : Expansion) → p.may_follow ≡ true
      → Meets (take_name o x p s) (take_name o x (longer z b p) (L s))
  on_name_meets None x p s h = (refl, h)
  on_name_meets (Some d) x p s h =
      on_answer_meets (paren_at ((s.so_far).state).quotes ((s.so_far).state).comments p) _ (call_of d x (place_at s.pending)) p s h
      (yes_text p.definition ((s.so_far).state).quotes ((s.so_far).state).comments p)
      (paren_stays p.definition ((s.so_far).state).quotes ((s.so_far).state).comments p h)

  on_closing_meets : (n c : ℕ) (k : Call) (s : Expansion) → (s.pending).may_follow ≡ true → Meets (take_closing n c k s) (take_closing n c k (L s))
  on_closing_meets zero c k s h = (refl, h)
  on_closing_meets (suc n) c k s h = (refl, h)

  take_byte_meets : (r : Role) (c : ℕ) (k : Call) (s : Expansion) → (s.pending).may_follow ≡ true → Meets (take_byte r c k s) (take_byte r c k (L s))
  take_byte_meets Opening c k s h = (refl, h)
  take_byte_meets Closing c k s h = on_closing_meets k.parentheses c k s h
  take_byte_meets Separator c k s h = (refl, h)
  take_byte_meets Blank c k s h = (refl, h)
  take_byte_meets Other c k s h = (refl, h)

  on_byte_meets : (m : Mode) (c : ℕ) (s : Expansion) → (s.pending).may_follow ≡ true → Meets (take_other m c s) (take_other m c (L s))
  on_byte_meets Outside c s h = (refl, h)
  on_byte_meets (Collecting k) c s h = take_byte_meets (role_of c k) c k s h

  on_token_meets : (t : Token) (p : Pending) (s : Expansion) → t ≢ End → p.may_follow ≡ true → Meets (take_token t p s) (take_token t (longer z b p) (L s))
  on_token_meets (Name x) p s n h = on_name_meets (top_of (s.so_far).state x) x p s h
  on_token_meets (Str x) p s n h = (refl, h)
  on_token_meets (Comment x) p s n h = (refl, h)
  on_token_meets (Byte c) p s n h = on_byte_meets s.mode c (reading p s) h
  on_token_meets (Definition d) p s n h = (refl, h)
  on_token_meets End p s n h = absurd (n refl)

  -- a look leaves the end as it is
  SeenPartial : Bool → Front → Type 0
  SeenPartial v (Taken t p) = p.may_follow ≡ v
  SeenPartial v (Refused f n) = Unit {0}
  SeenPartial v More = Unit {0}

  seen_by_partial : (p : Pending) (v : Scan) → SeenPartial p.may_follow (front_by p v)
  unfolding SeenPartial
  seen_by_partial p (Found t n) = refl
  seen_by_partial p (Broken f) = tt
  seen_by_partial p NeedsMore = tt

  seen_partial : (o : Option Def) (q c : Delimiters) (p : Pending) → SeenPartial p.may_follow (front_from o q c p)
  unfolding SeenPartial
  seen_partial (Some d) q c p = refl
  seen_partial None q c p = seen_by_partial p (scan q c p.may_follow (text_of p))

  -- the first token isn't the end of the input
  NotEnd : Front → Type 0
  NotEnd (Taken t p) = t ≢ End
  NotEnd (Refused f n) = Unit {0}
  NotEnd More = Unit {0}

  front_by_not_end : (p : Pending) (v : Scan) → NoEnd v → NotEnd (front_by p v)
  unfolding NotEnd NoEnd
  front_by_not_end p (Found t n) h = h
  front_by_not_end p (Broken f) h = tt
  front_by_not_end p NeedsMore h = tt

  front_not_end : (o : Option Def) (q c : Delimiters) (p : Pending) → p.may_follow ≡ true → NotEnd (front_from o q c p)
  unfolding NotEnd
  front_not_end (Some d) q c p e = λ f. cc
  front_not_end None q c p e =
      let P : Bool → Type 0 = λ v. NotEnd (front_by p (scan q c v (text_of p))) in
      subst P (sym e) (front_by_not_end p (scan q c true (text_of p)) (scan_no_end q c (text_of p)))

  not_done : (f : Unended) → Ends (unended_cause f) ≢ Ends causes.Done
  not_done InString e = cc
  not_done InComment e = cc

  on_seen_meets : (v w : Front) (s : Expansion) → NotEnd v → (s.pending).may_follow ≡ true
      → SeenPartial (s.pending).may_follow v → SeenStays v w → Meets (take_front v s) (take_front w (L s))
  unfolding NotEnd SeenPartial SeenStays longer_seen
  on_seen_meets (Taken t p) w s n h k (inl e) = cc
  on_seen_meets (Taken t p) w s n h k (inr e) = subst (λ x. Meets (take_token t p s) (take_front x (L s))) (sym e) (on_token_meets t p s n (k ∙ h))
  on_seen_meets (Refused f l) w s n h k (inl e) = cc
  on_seen_meets (Refused f l) w s n h k (inr e) = inr (ap (λ x. take_front x (L s)) e, not_done f)
  on_seen_meets More w s n h k e = inl (refl, on_seen_keeps w (L s))

  turn_meets : (s : Expansion) → (s.pending).may_follow ≡ true → Meets (turn s) (turn (L s))
  turn_meets s h =
      on_seen_meets (token_at ((s.so_far).state).quotes ((s.so_far).state).comments s.pending) _ s
      (front_not_end (s.pending).definition ((s.so_far).state).quotes ((s.so_far).state).comments s.pending h) h
      (seen_partial (s.pending).definition ((s.so_far).state).quotes ((s.so_far).state).comments s.pending)
      (seen_stays (s.pending).definition ((s.so_far).state).quotes ((s.so_far).state).comments s.pending h)

  join_meets : (m : Mode) (k : Kept) (t : Expansion) → (t.pending).may_follow ≡ true → MeetsOut (join_by m k t) (join_by m k (L t))
  join_meets Outside k t h = (refl, h)
  join_meets (Collecting c) k t h = called_meets c t k h

  abbrev whole : Expansion → Outcome Expansion Ended
  whole = expand

  abbrev R : Expansion → Expansion → Type 0
  R s t = ((s.pending).may_follow ≡ true) × (t ≡ L s)

  abbrev K : Kept → Kept → Type 0
  K f g = g ≡ f

  -- how the one ends: it wants more, and the other goes on from what it made; or both end so
  abbrev Q : Ended → Outcome Expansion Ended → Type 0
  Q d o = Continues d o

  halts : (s t : Expansion) (d : Ended) → R s t → turn s ≡ Halt d → Q d (whole t)
  halts s t d r e =
      let m : Meets (Halt d) (turn (L s)) = subst (λ v. Meets v (turn (L s))) e (turn_meets s r.0) in
      subst (λ x. Q d (whole x)) (sym r.1)
      (⊎_elim (λ h. inl (h.0, subst (λ o. Extends d.so_far (so_far_in o)) (sym (expand_is (L s))) (extends_more _ _ _ h.1 (turn_goes (turn (L s))))))
      (λ h. inr (expand_is (L s) ∙ ap (after Expansion Kept Ended join whole whole) h.0, h.1))
      m)

  follows : Follows Expansion Kept Ended turn join whole R K Q
  follows = record {
    halt = halts;
    close = λ s t u r e. let m = subst (λ v. Meets v (turn (L s))) e (turn_meets s r.0) in (L u, ap turn r.1 ∙ m.0, (m.1, refl));
    go_on = λ s t u r e. let m = subst (λ v. Meets v (turn (L s))) e (turn_meets s r.0) in (L u, ap turn r.1 ∙ m.0, (m.1, refl));
    bare = λ s t u r e. let m = subst (λ v. Meets v (turn (L s))) e (turn_meets s r.0) in (L u, ap turn r.1 ∙ m.0, (m.1, refl));
    opens = λ s t u f r e. let m = subst (λ v. Meets v (turn (L s))) e (turn_meets s r.0) in (f, L u, ap turn r.1 ∙ m.0, refl, (m.1, refl));
    join_halt = λ f g u w d r q e.
        let m : MeetsOut (Halted d) (join f (L u)) = subst (λ v. MeetsOut v (join f (L u))) e (join_meets u.mode f u q.0) in
        subst (λ x. Q d (then_on (join x w) whole)) (sym r) (subst (λ x. Q d (then_on (join f x) whole)) (sym q.1)
        (⊎_elim (λ h. inl (h.0, extends_more _ _ _ h.1 (then_keeps (join f (L u)) whole whole_keeps))) (λ h. inr (ap (λ o. then_on o whole) h.0, h.1)) m));
    joins = λ f g u w v r q e.
        let m : MeetsOut (Closed v) (join f (L u)) = subst (λ o. MeetsOut o (join f (L u))) e (join_meets u.mode f u q.0) in
        (L v, ap (λ x. join x w) r ∙ ap (join f) q.1 ∙ m.0, (m.1, refl));
    later = λ d o t q. ⊎_elim (λ h. inl (h.0, extends_more _ _ _ h.1 (list_keeps t o))) (λ h. inr (ap (λ x. then_on (then_on x (join t)) whole) h.0, h.1)) q;
  }

  -- the law: what an open end has, every end has as a beginning, and an end that it decides is the end
  pub settled_begins : (s : Expansion) → (s.pending).may_follow ≡ true → Fits Expansion Ended R Q (whole s) (whole (longer_level z b s))
  settled_begins s h = expansion_fits Expansion Kept Ended turn join out_of_bound_at size_of calls_left falls R K Q follows s (L s) (h, refl)

  pub law : (s : Expansion) → (s.pending).may_follow ≡ true → Begins z b (whole s) (whole (longer_level z b s))
  law s h = go (whole s) (settled_begins s h)
    where
      go : (o : Outcome Expansion Ended) → Fits Expansion Ended R Q o (whole (longer_level z b s)) → Begins z b o (whole (longer_level z b s))
      go (Halted d) f = f
      go (Closed t) f = (f.0, f.1, f.2.0, f.2.1)
