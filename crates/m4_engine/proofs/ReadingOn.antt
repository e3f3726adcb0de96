-- ReadingOn: where more bytes are wanted, the expansion stays there while a part of them leaves it open.
use Rattle.std.proofs.Common.{◌≡◌, inl, inr, Bool, true, List, [], ◌++◌, ℕ, sym, ap, ◌∙◌}
use Rattle.m4_input.specs.Pending.{Pending}
use Rattle.m4_input.specs.Input.{Held, longer, wants_token}
use Rattle.m4_engine.specs.declared.machine.driver.Wanted.{Wanted}
use Rattle.m4_engine.specs.declared.machine.driver.Wanted.TheVariants as wanted
use Rattle.m4_engine.specs.Nesting.{Halted, after}
use Rattle.m4_engine.specs.OpenCalls.{resume}
use Rattle.m4_engine.specs.Expansion.{Expansion, Kept, Ended, NeedsInput}
use Rattle.m4_engine.specs.Expand.{turn, join, expand, take_front}
use Rattle.m4_engine.specs.Engine.{Engine, so_far_of, outer_of, here_of, configuration}
use Rattle.m4_engine.specs.Continued.{comes_to, HandNeeds}
use Rattle.m4_engine.specs.ReadsOn.{IsWantedAfter}
use Rattle.m4_engine.specs.Writers.{Contents}
use Rattle.m4_engine.proofs.CallsFall.{expand_is}
use Rattle.m4_engine.proofs.Longer.{nothing_more}
use Rattle.m4_engine.proofs.MachineIsNesting.{resume-halted}

-- nothing came, and nothing is lost
nothing_came : (p : Pending) → p.may_follow ≡ true → longer [] true p ≡ p
nothing_came p f = ap (λ (b : Bool). longer [] b p) (sym f) ∙ nothing_more p

-- the next token is open: the expansion stops there
token_open : (e : Engine) (p : Pending) (a b : List ℕ) → wants_token (e.state).quotes (e.state).comments p
    → comes_to wanted.Token (configuration a b e p) ≡ Halted (record { so_far = so_far_of a b e; reason = NeedsInput })
token_open e p a b w =
    ap (resume Expansion Kept Ended turn join expand (outer_of e.open_calls))
    (expand_is (here_of a b e p) ∙ ap (λ v. after Expansion Kept Ended join expand expand (take_front v (here_of a b e p))) w)
    ∙ resume-halted Expansion Kept Ended turn join expand (outer_of e.open_calls) (record { so_far = so_far_of a b e; reason = NeedsInput })

-- the machine came to a place where more bytes are needed: it stays there while they leave open what is wanted
pub stays_open : (w v : Wanted) (e e' : Engine) (i j : Held) (c : Contents) (h : HandNeeds w e i v e' j c)
    → (j.pending).may_follow ≡ true → (y : List ℕ) → IsWantedAfter v e' j.pending y → (a b : List ℕ)
    → comes_to v (configuration (a ++ h.o) (b ++ h.m) e' (longer y true j.pending))
    ≡ Halted (record { so_far = so_far_of (a ++ h.o) (b ++ h.m) e'; reason = NeedsInput })
stays_open w wanted.Token e e' i j c h f y (inr u) a b = token_open e' (longer y true j.pending) (a ++ h.o) (b ++ h.m) u
stays_open w wanted.Token e e' i j c h f y (inl n) a b =
    ap (λ (x : List ℕ). comes_to wanted.Token (configuration (a ++ h.o) (b ++ h.m) e' (longer x true j.pending))) n
    ∙ ap (λ (p : Pending). comes_to wanted.Token (configuration (a ++ h.o) (b ++ h.m) e' p)) (nothing_came j.pending f)
    ∙ h.undecided a b
stays_open w wanted.Line e e' i j c h f y n a b =
    ap (λ (x : List ℕ). comes_to wanted.Line (configuration (a ++ h.o) (b ++ h.m) e' (longer x true j.pending))) n
    ∙ ap (λ (p : Pending). comes_to wanted.Line (configuration (a ++ h.o) (b ++ h.m) e' p)) (nothing_came j.pending f)
    ∙ h.undecided a b
