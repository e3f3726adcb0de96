-- FailureCounts: how often the devices of a line failed, and what is answered of that.
-- Believed: public contracts cite it. Words: Grew, Rose, Counts, counts_of, NoneRose, AnyRose, FailedAs.
use Rattle.std.specs.Prelude.{◌≡◌, ◌⊎◌, ◌≤◌, ◌^◌, ◌-◌, min, ℕ, Option, Some, None}
use Rattle.m4_state.specs.Device.{one_more}
use Rattle.m4_engine.specs.Writers.{Change}
use Rattle.m4_tool.specs.declared.followed.Failure.{Failure}
use Rattle.m4_tool.specs.declared.followed.Failure.TheVariants as failures

-- a count of failures did not fall; its greatest value stands for all above it
abbrev pub Grew : ℕ → ℕ → Type 0
Grew old new = min old (2 ^ 64 - 1) ≤ min new (2 ^ 64 - 1)

-- there were more failures
abbrev pub Rose : ℕ → ℕ → Type 0
Rose old new = one_more old ≤ min new (2 ^ 64 - 1)

-- how often writes and flushes of the output, of the messages and of the world's file failed, before and after
pub record Counts : Type 0 where
  pub out_old : ℕ
  pub out_new : ℕ
  pub messages_old : ℕ
  pub messages_new : ℕ
  pub world_old : ℕ
  pub world_new : ℕ

abbrev pub counts : ℕ → ℕ → ℕ → ℕ → ℕ → ℕ → Counts
counts o o' m m' w w' =
    record { out_old = o; out_new = o'; messages_old = m; messages_new = m'; world_old = w; world_new = w' }

-- the counts of the output, of the messages and of the world
abbrev pub counts_of : Change ℕ → Change ℕ → Change ℕ → Counts
counts_of out messages world = counts out.old out.new messages.old messages.new world.old world.new

-- nothing failed
abbrev pub NoneRose : Counts → Type 0
NoneRose c = (c.out_new ≡ c.out_old) × (c.messages_new ≡ c.messages_old) × (c.world_new ≡ c.world_old)

-- something failed
abbrev pub AnyRose : Counts → Type 0
AnyRose c = Rose c.out_old c.out_new ⊎ (Rose c.messages_old c.messages_new ⊎ Rose c.world_old c.world_new)

-- what is answered of writes and flushes is so by the counts
abbrev pub FailedAs : Option Failure → Counts → Type 0
FailedAs None c = NoneRose c
FailedAs (Some failures.Write) c = AnyRose c
FailedAs (Some failures.Report) c = Rose c.messages_old c.messages_new
FailedAs (Some failure) c = Unit {0}
