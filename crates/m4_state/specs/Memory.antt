-- Memory: the devices over memory, as contracts see them.
-- Believed: the tests' readers and writers are these. Words: MemReader, script_of, MemWriter.
use Rattle.std.specs.Prelude.{ℕ, Bool, List, drop, Option, Some}
use Rattle.m4_state.specs.Device.{Script}

-- a reader: all the bytes that it was made with, how many of them were read, the most bytes for each
-- take, whether it fails after the last one, and how often it has failed
pub record MemReader : Type 0 where
  pub all : List ℕ
  pub taken : ℕ
  pub at_most : ℕ
  pub fails : Bool
  pub failures : ℕ

-- the bytes still to be read
abbrev pub script_of : MemReader → Option Script
script_of r = Some (record { bytes = drop r.taken r.all; fails = r.fails })

-- a writer: the bytes that were written, the most bytes in all and for each put, and how often it has
-- failed
pub record MemWriter : Type 0 where
  pub held : List ℕ
  pub room : ℕ
  pub at_most : ℕ
  pub failures : ℕ
