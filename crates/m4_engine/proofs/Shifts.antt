-- Shifts: a run that goes on from a record does what the run from an empty record does, and larger
-- limits change nothing.
use Rattle.std.proofs.Common.{◌≡◌, ◌⊎◌, inl, inr, ⊎_elim, Option, ℕ, zero, suc, ◌+◌, ◌<◌, Bool, true, false, ◌&&◌}
use Rattle.std.proofs.Common.{List, [], ◌∷◌, ◌++◌, Some, None, refl, sym, ap, ◌∙◌, subst, arith, append_assoc}
use Rattle.std.specs.Prelude.{nat_lt}
use Rattle.std.proofs.lemmas.Bool.Decides.{nat_tests}
use Rattle.m4_state.specs.declared.definition.Def.{Def}
use Rattle.m4_input.specs.declared.token.Token.{Token}
use Rattle.m4_input.specs.declared.token.Token.TheVariants.{Name, Str, Comment, Byte, Definition, End}
use Rattle.m4_input.specs.declared.front.Answer.{Answer}
use Rattle.m4_input.specs.declared.front.Answer.TheVariants.{Yes, No, Unknown}
use Rattle.m4_input.specs.Pending.{Pending, text_of, line_length}
use Rattle.m4_input.specs.Token.{Front, Taken, Refused, More, token_at}
use Rattle.m4_input.specs.Paren.{paren_at}
use Rattle.m4_state.specs.State.{top_of}
use Rattle.m4_input.specs.declared.pushed.Pushed.{Pushed}
use Rattle.m4_builtins.specs.Act.{needs_list}
use Rattle.m4_engine.specs.declared.ending.Cause.{Cause}
use Rattle.m4_engine.specs.declared.ending.Cause.TheVariants as causes
use Rattle.m4_engine.specs.Nesting.{Turn, Halt, Close, GoOn, Bare, Opens, Outcome, Halted, Closed, then_on, after}
use Rattle.m4_engine.specs.Expansion.{RunSoFar, Call, Mode, Outside, Collecting, Expansion, Kept, EndReason, Ends}
use Rattle.m4_engine.specs.Expansion.{Ended, place_at, with_message, with_call, reading, put_text}
use Rattle.m4_engine.specs.declared.role.Role.{Role}
use Rattle.m4_engine.specs.declared.role.Role.TheVariants.{Opening, Closing, Separator, Blank, Other}
use Rattle.m4_engine.specs.Args.{with_argument, dropped_if_any, end_argument, role_of, take_closing, take_byte}
use Rattle.m4_engine.specs.Expand.{skip_all, skip_line, effected, acted_at, kept_of, after_call, called}
use Rattle.m4_engine.specs.Expand.{join, call_of, bare, collect, is_deep}
use Rattle.m4_engine.specs.Expand.{call, take_call, take_name, take_other, take_end, take_token}
use Rattle.m4_engine.specs.Expand.{take_front, unended_cause, turn, size_of, calls_left, out_of_bound_at, expand}
use Rattle.std.specs.Prelude.{codes}
use Rattle.std.specs.Fmt.{decimal}
use Rattle.m4_builtins.specs.Messages.{error}
use Rattle.m4_engine.proofs.Beside.{Follows, Fits, expansion_fits}
use Rattle.m4_engine.proofs.CallsFall.{falls, expand_is}
use Rattle.m4_engine.proofs.Cases.{skip_or_push, join_by, call_unless_deep, call_if_room, call_without_list}

-- the record consumed one with this output, these messages and this count
abbrev pub after_record : List ℕ → List ℕ → ℕ → RunSoFar → RunSoFar
after_record o m c r = record r { output = o ++ r.output; messages = m ++ r.messages; calls = c + r.calls }

-- The first run goes on from output, messages and calls that were made before, and has the limits
-- `calls` and `nesting`; the second starts with none, and its limits are as large or larger. `Limit`
-- says at which ends nothing is claimed of the second: at those of a limit that is not the same.
module _ (o m : List ℕ) (c calls calls' nesting nesting' : ℕ) (room : (k : ℕ) → c + k < calls → k < calls')
    (depth : (k : ℕ) → (nat_lt 0 nesting && nat_lt nesting k) ≡ false → (nat_lt 0 nesting' && nat_lt nesting' k)
    ≡ false) (Limit : EndReason → Type 0)
    (at_calls : Limit (Ends causes.ExpansionLimit) ⊎ ((c ≡ 0) × (calls ≡ calls')))
    (at_nesting : Limit (Ends causes.NestingLimit) ⊎ (nesting ≡ nesting')) where
  abbrev pub B : Expansion → Expansion
  B s = record s { limits = record s.limits { calls = calls; nesting = nesting }; so_far = after_record o m c s.so_far }

  -- the second run has the larger limits
  abbrev pub HasLimits : Expansion → Type 0
  HasLimits s = ((s.limits).calls ≡ calls') × ((s.limits).nesting ≡ nesting')

  abbrev Bd : Ended → Ended
  Bd d = record { so_far = after_record o m c d.so_far; reason = d.reason }

  -- what the first run's turn says of the second's
  unfoldable pub Meets : Turn Expansion Kept Ended → Turn Expansion Kept Ended → Type 0
  Meets (Halt d) w = Limit d.reason ⊎ ((e : Ended) × (w ≡ Halt e) × (d ≡ Bd e))
  Meets (Close u) w = (v : Expansion) × (w ≡ Close v) × (u ≡ B v) × HasLimits v
  Meets (GoOn u) w = (v : Expansion) × (w ≡ GoOn v) × (u ≡ B v) × HasLimits v
  Meets (Bare u) w = (v : Expansion) × (w ≡ Bare v) × (u ≡ B v) × HasLimits v
  Meets (Opens f u) w = (v : Expansion) × (w ≡ Opens f v) × (u ≡ B v) × HasLimits v

  unfoldable pub MeetsOut : Outcome Expansion Ended → Outcome Expansion Ended → Type 0
  MeetsOut (Halted d) w = Limit d.reason ⊎ ((e : Ended) × (w ≡ Halted e) × (d ≡ Bd e))
  MeetsOut (Closed u) w = (v : Expansion) × (w ≡ Closed v) × (u ≡ B v) × HasLimits v

  -- text and messages go consumed what there was
  text_after : (x : List ℕ) (s : Expansion) → put_text x (B s) ≡ B (put_text x s)
  text_after x s = ap (λ (y : List ℕ). record (B (put_text x s))
      { so_far = record (B (put_text x s)).so_far { output = y } }) (append_assoc o (s.so_far).output _)

  reported_after : (x : List ℕ) (r : RunSoFar)
      → record (after_record o m c r) { messages = (m ++ r.messages) ++ x }
      ≡ after_record o m c (record r { messages = r.messages ++ x })
  reported_after x r = ap (λ (y : List ℕ). record (after_record o m c r) { messages = y }) (append_assoc m r.messages x)

  count_follows : (s : Expansion) → with_call (B s) ≡ B (with_call s)
  count_follows s = ap (λ (n : ℕ). record (B s) { so_far = record (B s).so_far { calls = n } })
      (let e : suc (c + (s.so_far).calls) ≡ c + suc (s.so_far).calls = omega arith in e)

  skipped_all_meets : (b : Bool) (s : Expansion) → HasLimits s → MeetsOut (skip_all b (B s)) (skip_all b s)
  unfolding MeetsOut
  skipped_all_meets true s l = inr (_, refl, refl)
  skipped_all_meets false s l = (_, refl, refl, l)

  skipped_meets : (n : Option ℕ) (s : Expansion) → HasLimits s → MeetsOut (skip_line n (B s)) (skip_line n s)
  unfolding MeetsOut
  skipped_meets None s l = skipped_all_meets (s.pending).may_follow s l
  skipped_meets (Some n) s l = (_, refl, refl, l)

  pushed_meets : (skip : Bool) (v : Option Pushed) (s : Expansion) → HasLimits s → MeetsOut (skip_or_push skip v (B s)) (skip_or_push skip v s)
  unfolding MeetsOut
  pushed_meets true v s l = skipped_meets (line_length (text_of s.pending)) s l
  pushed_meets false v s l = (_, refl, refl, l)

  effected_meets : (n : Option ℕ) (skip : Bool) (v : Option Pushed) (s : Expansion) → HasLimits s → MeetsOut (effected n skip v (B s)) (effected n skip v s)
  unfolding MeetsOut
  effected_meets (Some n) skip v s l = inr (_, refl, refl)
  effected_meets None skip v s l = pushed_meets skip v s l

  call_after : (k : Call) (t : Expansion) (f : Kept) → after_call k (B t) f ≡ B (after_call k t f)
  call_after k t f =
      ap (λ (x : List ℕ × List ℕ). record (B (after_call k t f)) { so_far = record (B (after_call k t f)).so_far { output = x.0; messages = x.1 } })
      (ap (λ (y : List ℕ). (y, (m ++ (t.so_far).messages) ++ ((acted_at k t).effect).messages)) (append_assoc o (t.so_far).output _)
      ∙ ap (λ (y : List ℕ). (o ++ ((t.so_far).output ++ ((acted_at k t).effect).output), y)) (append_assoc m (t.so_far).messages _))

  called_meets : (k : Call) (t : Expansion) (f : Kept) → HasLimits t → MeetsOut (called k (B t) f) (called k t f)
  called_meets k t f l =
      subst (λ x. MeetsOut (effected ((acted_at k t).effect).exit ((acted_at k t).effect).skip
      ((acted_at k t).effect).push x) (called k t f)) (sym (call_after k t f))
      (effected_meets ((acted_at k t).effect).exit ((acted_at k t).effect).skip ((acted_at k t).effect).push (after_call k t f) l)

  bare_meets : (v w : Outcome Expansion Ended) → MeetsOut v w → Meets (bare v) (bare w)
  unfolding MeetsOut Meets
  bare_meets (Halted d) w (inl h) = inl h
  bare_meets (Halted d) w (inr h) = inr (h.0, ap bare h.1, h.2)
  bare_meets (Closed u) w h = (h.0, ap bare h.1, h.2, h.3)

  enter_list_meets : (listed : Bool) (k : Call) (p : Pending) (s : Expansion) → HasLimits s → Meets (collect listed k p (B s)) (collect listed k p s)
  unfolding Meets
  enter_list_meets true k p s l = (_, refl, refl, l)
  enter_list_meets false k p s l = bare_meets _ _ (called_meets k (reading p s) (kept_of s) l)

  -- an error whose text contains a limit, if the limit is the same
  abbrev failed : Call → List ℕ → Cause → RunSoFar → Ended
  failed k x h r = record { so_far = with_message (error k.place x) r; reason = Ends h }

  abbrev failing : Call → List ℕ → Cause → RunSoFar → Turn Expansion Kept Ended
  failing k x h r = Halt (failed k x h r)

  fails_after : (x y : List ℕ) (h : Cause) (k : Call) (r : RunSoFar) → x ≡ y
      → (e : Ended) × (failing k y h r ≡ Halt e) × (failed k x h (after_record o m c r) ≡ Bd e)
  fails_after x y h k r e = (
    failed k y h r,
    refl,
    ap (λ (z : List ℕ). failed k z h (after_record o m c r)) e
        ∙ ap (λ (q : RunSoFar). let d : Ended = record { so_far = q; reason = Ends h } in d) (reported_after (error k.place y) r),
  )

  enter_meets : (deep deep' listed : Bool) (k : Call) (p : Pending) (s : Expansion) → (deep ≡ false → deep' ≡ false)
      → (deep ≡ true → nesting ≡ nesting' → deep' ≡ true) → HasLimits s
      → Meets (call_unless_deep deep listed k p (B s)) (call_unless_deep deep' listed k p s)
  unfolding Meets
  enter_meets true deep' listed k p s h g l =
      ⊎_elim (λ x. inl x)
      (λ e. inr (let f = fails_after (codes "more than " ++ decimal nesting ++ codes " nested calls")
      (codes "more than " ++ decimal (s.limits).nesting ++ codes " nested calls") causes.NestingLimit k s.so_far
      (ap (λ n. codes "more than " ++ decimal n ++ codes " nested calls") (e ∙ sym l.1)) in
      (f.0, ap (λ d. call_unless_deep d listed k p s) (g refl e) ∙ f.1, f.2)))
      at_nesting
  enter_meets false deep' listed k p s h g l =
      subst (λ d. Meets (call_unless_deep false listed k p (B s)) (call_unless_deep d listed k p s)) (sym (h refl))
      (enter_list_meets listed k p s l)

  deep_after : (s : Expansion) → HasLimits s → is_deep (B s) ≡ false → is_deep s ≡ false
  deep_after s l e = subst (λ (n : ℕ). (nat_lt 0 n && nat_lt n (suc s.open_calls)) ≡ false) (sym l.1) (depth (suc s.open_calls) e)

  deep_same : (s : Expansion) → HasLimits s → is_deep (B s) ≡ true → nesting ≡ nesting' → is_deep s ≡ true
  deep_same s l e f = subst (λ (n : ℕ). (nat_lt 0 n && nat_lt n (suc s.open_calls)) ≡ true) (f ∙ sym l.1) e

  call_if_meets : (r r' listed : Bool) (k : Call) (p : Pending) (s : Expansion) → (r ≡ true → r' ≡ true)
      → (r ≡ false → c ≡ 0 → calls ≡ calls' → r' ≡ false) → HasLimits s
      → Meets (call_if_room r listed k p (B s)) (call_if_room r' listed k p s)
  unfolding Meets
  call_if_meets false r' listed k p s h g l =
      ⊎_elim (λ x. inl x)
      (λ e. inr (let f = fails_after (codes "more than " ++ decimal calls ++ codes " calls")
      (codes "more than " ++ decimal (s.limits).calls ++ codes " calls") causes.ExpansionLimit k s.so_far
      (ap (λ n. codes "more than " ++ decimal n ++ codes " calls") (e.1 ∙ sym l.0)) in
      (f.0, ap (λ d. call_if_room d listed k p s) (g refl e.0 e.1) ∙ f.1, f.2)))
      at_calls
  call_if_meets true r' listed k p s h g l =
      subst (λ x. Meets (call_unless_deep (is_deep x) listed k p x) (call_if_room r' listed k p s)) (sym (count_follows s))
      (subst (λ x. Meets (call_unless_deep (is_deep (B (with_call s))) listed k p (B (with_call s))) (call_if_room x listed k p s)) (sym (h refl))
      (enter_meets _ _ listed k p (with_call s) (deep_after (with_call s) l) (deep_same (with_call s) l) l))

  lt_true : (a b : ℕ) → a < b → nat_lt a b ≡ true
  lt_true a b h = grind (arith, nat_tests)

  true_lt : (a b : ℕ) → nat_lt a b ≡ true → a < b
  true_lt a b h = grind (arith, nat_tests)

  room_test : (s : Expansion) → HasLimits s → nat_lt (c + (s.so_far).calls) calls ≡ true → nat_lt (s.so_far).calls (s.limits).calls ≡ true
  room_test s l e = subst (λ (n : ℕ). nat_lt (s.so_far).calls n ≡ true) (sym l.0) (lt_true _ _ (room (s.so_far).calls (true_lt _ _ e)))

  none_test : (s : Expansion) → HasLimits s → nat_lt (c + (s.so_far).calls) calls ≡ false → c ≡ 0 → calls ≡ calls'
      → nat_lt (s.so_far).calls (s.limits).calls ≡ false
  none_test s l e f g =
      let h : c + (s.so_far).calls ≡ (s.so_far).calls = omega arith in
      ap (nat_lt (s.so_far).calls) (l.0 ∙ sym g) ∙ ap (λ n. nat_lt n calls) (sym h) ∙ e

  call_meets : (listed : Bool) (k : Call) (p : Pending) (s : Expansion) → HasLimits s → Meets (call listed k p (B s)) (call listed k p s)
  call_meets listed k p s l = call_if_meets _ _ listed k p s (room_test s l) (none_test s l) l

  unlisted_meets : (b : Bool) (k : Call) (p : Pending) (s : Expansion) → HasLimits s → Meets (call_without_list b k p (B s)) (call_without_list b k p s)
  unfolding Meets
  unlisted_meets true k p s l = (_, refl, text_after k.name (reading p s), l)
  unlisted_meets false k p s l = call_meets false k p s l

  on_answer_meets : (a : Answer) (k : Call) (p : Pending) (s : Expansion) → HasLimits s → Meets (take_call a k p (B s)) (take_call a k p s)
  unfolding Meets
  on_answer_meets Unknown k p s l = inr (_, refl, refl)
  on_answer_meets Yes k p s l = call_meets true k p s l
  on_answer_meets No k p s l = unlisted_meets (needs_list k.definition) k p s l

  on_name_meets : (d : Option Def) (x : List ℕ) (p : Pending) (s : Expansion) → HasLimits s → Meets (take_name d x p (B s)) (take_name d x p s)
  unfolding Meets
  on_name_meets None x p s l = (_, refl, text_after x (reading p s), l)
  on_name_meets (Some d) x p s l = on_answer_meets (paren_at ((s.so_far).state).quotes ((s.so_far).state).comments p) (call_of d x (place_at s.pending)) p s l

  ended : (k : Call) (s : Expansion) → end_argument k (B s) ≡ B (end_argument k s)
  ended k s = ap (λ r. record (B s) { so_far = r; mode = Collecting (with_argument k) }) (reported_after (dropped_if_any k.place k.bytes k.tokens) s.so_far)

  on_closing_meets : (n b : ℕ) (k : Call) (s : Expansion) → HasLimits s → Meets (take_closing n b k (B s)) (take_closing n b k s)
  unfolding Meets
  on_closing_meets zero b k s l = (_, refl, ended k s, l)
  on_closing_meets (suc n) b k s l = (_, refl, refl, l)

  take_byte_meets : (r : Role) (b : ℕ) (k : Call) (s : Expansion) → HasLimits s → Meets (take_byte r b k (B s)) (take_byte r b k s)
  unfolding Meets
  take_byte_meets Opening b k s l = (_, refl, refl, l)
  take_byte_meets Closing b k s l = on_closing_meets k.parentheses b k s l
  take_byte_meets Separator b k s l = (_, refl, ended k s, l)
  take_byte_meets Blank b k s l = (_, refl, refl, l)
  take_byte_meets Other b k s l = (_, refl, text_after (b ∷ []) s, l)

  on_byte_meets : (h : Mode) (b : ℕ) (s : Expansion) → HasLimits s → Meets (take_other h b (B s)) (take_other h b s)
  unfolding Meets
  on_byte_meets Outside b s l = (_, refl, text_after (b ∷ []) s, l)
  on_byte_meets (Collecting k) b s l = take_byte_meets (role_of b k) b k s l

  on_end_meets : (h : Mode) (s : Expansion) → HasLimits s → Meets (take_end h (B s)) (take_end h s)
  unfolding Meets
  on_end_meets Outside s l = inr (_, refl, refl)
  on_end_meets (Collecting k) s l = inr (
    _,
    refl,
    ap (λ (r : RunSoFar). let d : Ended = record { so_far = r; reason = Ends causes.EndInArguments } in d)
        (reported_after _ s.so_far),
  )

  on_token_meets : (t : Token) (p : Pending) (s : Expansion) → HasLimits s → Meets (take_token t p (B s)) (take_token t p s)
  unfolding Meets
  on_token_meets (Name x) p s l = on_name_meets (top_of (s.so_far).state x) x p s l
  on_token_meets (Str x) p s l = (_, refl, text_after x (reading p s), l)
  on_token_meets (Comment x) p s l = (_, refl, text_after x (reading p s), l)
  on_token_meets (Byte b) p s l = on_byte_meets s.mode b (reading p s) l
  on_token_meets (Definition d) p s l = (_, refl, refl, l)
  on_token_meets End p s l = on_end_meets s.mode s l

  on_seen_meets : (v : Front) (s : Expansion) → HasLimits s → Meets (take_front v (B s)) (take_front v s)
  unfolding Meets
  on_seen_meets (Taken t p) s l = on_token_meets t p s l
  on_seen_meets (Refused f n) s l = inr (
    _,
    refl,
    ap (λ (r : RunSoFar). let d : Ended = record { so_far = r; reason = Ends (unended_cause f) } in d)
        (reported_after _ s.so_far),
  )
  on_seen_meets More s l = inr (_, refl, refl)

  pub turn_meets : (s : Expansion) → HasLimits s → Meets (turn (B s)) (turn s)
  turn_meets s l = on_seen_meets (token_at ((s.so_far).state).quotes ((s.so_far).state).comments s.pending) s l

  pub join_meets : (h : Mode) (f : Kept) (t : Expansion) → HasLimits t → MeetsOut (join_by h f (B t)) (join_by h f t)
  unfolding MeetsOut
  join_meets Outside f t l = (_, refl, refl, l)
  join_meets (Collecting k) f t l = called_meets k t f l

  abbrev whole : Expansion → Outcome Expansion Ended
  whole = expand

  abbrev R : Expansion → Expansion → Type 0
  R s t = (s ≡ B t) × HasLimits t

  -- the first ends by a limit, or the second ends likewise
  abbrev Q : Ended → Outcome Expansion Ended → Type 0
  Q d v = Limit d.reason ⊎ ((e : Ended) × (v ≡ Halted e) × (d ≡ Bd e))

  met : (s t : Expansion) (v : Turn Expansion Kept Ended) → R s t → turn s ≡ v → Meets v (turn t)
  met s t v r e = subst (λ x. Meets x (turn t)) (sym (ap turn r.0) ∙ e) (turn_meets t r.1)

  met_out : (f g : Kept) (u w : Expansion) (v : Outcome Expansion Ended) → g ≡ f → R u w → join f u ≡ v → MeetsOut v (join g w)
  met_out f g u w v k r e = subst (λ x. MeetsOut x (join g w)) (ap (join g) (sym r.0) ∙ ap (λ x. join x u) k ∙ e) (join_meets w.mode g w r.1)

  follows : Follows Expansion Kept Ended turn join whole R (λ f g. g ≡ f) Q
  unfolding Meets MeetsOut
  follows = record {
    halt = λ s t d r e. ⊎_elim (λ h. inl h) (λ h. inr (h.0, expand_is t ∙ ap (after Expansion Kept Ended join whole whole) h.1, h.2)) (met s t (Halt d) r e);
    close = λ s t u r e. let k = met s t (Close u) r e in (k.0, k.1, (k.2, k.3));
    go_on = λ s t u r e. let k = met s t (GoOn u) r e in (k.0, k.1, (k.2, k.3));
    bare = λ s t u r e. let k = met s t (Bare u) r e in (k.0, k.1, (k.2, k.3));
    opens = λ s t u f r e. let k = met s t (Opens f u) r e in (f, k.0, k.1, refl, (k.2, k.3));
    join_halt = λ f g u w d q r e. ⊎_elim (λ h. inl h) (λ h. inr (h.0, ap (λ x. then_on x whole) h.1, h.2)) (met_out f g u w (Halted d) q r e);
    joins = λ f g u w v q r e. let k = met_out f g u w (Closed v) q r e in (k.0, k.1, (k.2, k.3));
    later = λ d v f q. ⊎_elim (λ h. inl h) (λ h. inr (h.0, ap (λ x. then_on (then_on x (join f)) whole) h.1, h.2)) q;
  }

  -- the law: unless the first run ends by a limit, the second does the same
  pub same_after : (t : Expansion) → HasLimits t → Fits Expansion Ended R Q (whole (B t)) (whole t)
  same_after t l = expansion_fits Expansion Kept Ended turn join out_of_bound_at size_of calls_left falls R (λ f g. g ≡ f) Q follows (B t) t (refl, l)
