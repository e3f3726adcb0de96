-- Joined: runs that start from one another's frozen text, and the one run that equals them.
-- Believed. Manual: "Fast loading of frozen state".
-- Words: freezing, prefixed, Joins, Link, reloads, chain, AllCarry, all_sources, total_calls, IsLast, EndsAs, JoinsAll.
use Rattle.std.specs.Prelude.{◌≡◌, ⊤, ℕ, zero, ◌+◌, Bool, true, List, [], ◌∷◌, ◌++◌, Option, Some, option_map, flat_map}
use Rattle.m4_state.specs.Device.{Script}
use Rattle.m4_engine.specs.declared.options.Options.{Options}
use Rattle.m4_engine.specs.File.{Source}
use Rattle.m4_engine.specs.Start.{frozen_file, start_of}
use Rattle.m4_engine.specs.Run.{RunResult, run}
use Rattle.m4_engine.specs.Carries.{Carries}

-- the options, for a run that freezes or not
abbrev pub freezing : Bool → Options → Options
freezing freezes o = record o { freeze = freezes }

-- the options with another prefix
abbrev pub prefixed : Bool → Options → Options
prefixed prefix o = record o { prefix = prefix }

-- a joint run writes what two runs write, one after the other, and ends as the second; it makes the calls
-- of both
pub record Joins (first second joint : RunResult) : Type 0 where
  pub output : joint.output ≡ first.output ++ second.output
  pub messages : joint.messages ≡ first.messages ++ second.messages
  pub reason : joint.reason ≡ second.reason
  pub status : joint.status ≡ second.status
  pub frozen : joint.frozen ≡ second.frozen
  pub calls : joint.calls ≡ first.calls + second.calls
  pub saved : joint.saved ≡ second.saved

-- a run of a chain after the first one: its sources, and its prefix, which has no effect on a run that
-- starts from a frozen file
pub record Link : Type 0 where
  pub prefix : Bool
  pub sources : List Source

-- the frozen file from which the next run starts
abbrev pub reloads : RunResult → Option Script
reloads r = option_map frozen_file r.frozen

-- The runs of a chain, all with the same limits. Each run but the last freezes, and the next one starts
-- from the text that it froze.
abbrev pub chain : Options → Bool → Option Script → List Source → List Link → List RunResult
chain o freezes frozen sources [] = run (freezing freezes o) frozen sources ∷ []
chain o freezes frozen sources (l ∷ ls) =
    run (freezing true o) frozen sources
    ∷ chain (prefixed l.prefix o) freezes (reloads (run (freezing true o) frozen sources)) l.sources ls

-- each run of a chain but the last froze a text, and carries
abbrev pub AllCarry : Options → Option Script → List Source → List Link → Type 0
AllCarry o frozen sources [] = ⊤
AllCarry o frozen sources (l ∷ ls) =
    Carries (freezing true o) (start_of o.prefix frozen) sources
    × ((text : List ℕ) × ((run (freezing true o) frozen sources).frozen ≡ Some text))
    × AllCarry (prefixed l.prefix o) (reloads (run (freezing true o) frozen sources)) l.sources ls

-- the sources of all runs of a chain, in order
abbrev pub all_sources : List Source → List Link → List Source
all_sources sources ls = sources ++ flat_map (λ (l : Link). l.sources) ls

-- how many calls these runs make together
abbrev pub total_calls : List RunResult → ℕ
total_calls [] = zero
total_calls (r ∷ rs) = r.calls + total_calls rs

-- the last of some runs
abbrev pub IsLast : RunResult → List RunResult → Type 0
IsLast last rs = (before : List RunResult) × (rs ≡ before ++ last ∷ [])

-- two runs end alike
pub record EndsAs (r last : RunResult) : Type 0 where
  pub reason : r.reason ≡ last.reason
  pub status : r.status ≡ last.status
  pub frozen : r.frozen ≡ last.frozen
  pub saved : r.saved ≡ last.saved

-- a joint run writes what all these runs write, one after another, and ends as the last one; it makes the
-- calls of all
pub record JoinsAll (runs : List RunResult) (joint : RunResult) : Type 0 where
  pub output : joint.output ≡ flat_map (λ (r : RunResult). r.output) runs
  pub messages : joint.messages ≡ flat_map (λ (r : RunResult). r.messages) runs
  pub ending : (last : RunResult) × IsLast last runs × EndsAs joint last
  pub calls : joint.calls ≡ total_calls runs
