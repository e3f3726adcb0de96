use Rattle.std.proofs.Common.{◌≡◌, ◌++◌, ◌≤◌, List, ℕ, Ok, length, take, drop, ap, sym, ◌∙◌, arith}
use Rattle.std.specs.Prelude.{nat_lt}
use Rattle.std.proofs.lemmas.List.{length-take, drop-append-le}
use Rattle.m4_input.specs.Text.{HeldText}
use Rattle.m4_input.specs.FileView.{left_in, split_at}
use Rattle.m4_input.proofs.Files.{block_added}
use Rattle.m4_input.proofs.file.File.take_block.Goals as goal

pub returns-in-Ok-take-clause-gives : goal.returns-in-Ok-take-clause-gives
returns-in-Ok-take-clause-gives g c =
    let f = c.self.inside in
    let b1 : List ℕ = c.make_room.new.bytes.items in
    let x : List ℕ = take c.in-Ok-take.n c.take.new.buf in
    let same : drop c.in-Ok.at b1 ≡ drop f.at f.bytes.items = c.in-Ok.ensures.same in
    let within : c.in-Ok.at ≤ length b1 = omega (arith, c.in-Ok.ensures.within) in
    let n : c.in-Ok-take.n ≤ length c.take.new.buf = omega (arith, c.in-Ok-take.ensures.within) in
    let lx : length x ≡ c.in-Ok-take.n = omega (arith, length-take c.in-Ok-take.n c.take.new.buf) in
    let small : length x ≤ 4096 = omega (arith, c.in-Ok-take.ensures.within) in (
      x,
      c.in-Ok-take.ensures.gives,
      small,
      ap (nat_lt 0) (sym lx),
      (λ e. let z : c.in-Ok-take.n ≡ 0 = sym lx ∙ ap length e in c.in-Ok-take.ensures.end (ap Ok z)),
      ap (λ (y : List ℕ). split_at f.pushed (drop c.in-Ok.at y) f.newlines) c.append_in_room.ensures.items
          ∙ ap (λ (y : List ℕ). split_at f.pushed y f.newlines) (drop-append-le c.in-Ok.at b1 x within ∙ ap (λ (y : List ℕ). y ++ x) same)
          ∙ block_added f.pushed f.newlines (left_in f) x c.self.invariant.1
          ∙ ap (λ (t : HeldText). let u : HeldText = record t { unread = t.unread ++ x } in u) c.self.view_is,
    )

pub returns-in-Err-take-clause-gives : goal.returns-in-Err-take-clause-gives
returns-in-Err-take-clause-gives g c =
    let f = c.self.inside in
    let same : g.R.ByteSource.script c.take.new.self ≡ g.R.ByteSource.script c.args.reader.now = c.in-Err-take.ensures.unchanged in (
      same,
      search (same, c.in-Err-take.ensures.fault),
      ap (λ (y : List ℕ). split_at f.pushed y f.newlines) c.in-Ok.ensures.same ∙ c.self.view_is,
    )
