-- The rest of a text is read, and then the bytes after it.
use Rattle.std.proofs.Common.{◌≡◌, List, ℕ, Result, Err, subst}
use Rattle.std.proofs.lemmas.Result.{err_from_is_err_and}
use Rattle.m4_frozen.specs.declared.loading.Loading.{Loading}
use Rattle.m4_frozen.specs.declared.loading.Pause.{Pause}
use Rattle.m4_frozen.specs.declared.fault.ReadStop.{ReadStop}
use Rattle.m4_frozen.specs.Underway.{HasRead, HasReadIn, HasReadNamed, IsRead, ReadsOn}
use Rattle.m4_frozen.proofs.TextRead.{read_on_as, text_and_after, text_stopped, whole_since, diverted_since}
use Rattle.m4_frozen.proofs.NamedRead.{named_since}
use Rattle.m4_frozen.proofs.loading.Loading.advance.Goals as goal

-- what is read of the bytes of a block is read of the block
on_block : (Before : List ℕ → Type 0) (bytes block : List ℕ) (new : Loading) (r : Result Pause ReadStop) → bytes ≡ block
    → ReadsOn Before bytes new r → ReadsOn Before block new r
on_block Before bytes block new r same h = subst (λ (x : List ℕ). ReadsOn Before x new r) same h

pub returns-in_ok-after-in-Some-Diversion : goal.returns-in_ok-after-in-Some-Diversion
returns-in_ok-after-in-Some-Diversion c =
    let mid : Loading = record c.args.self.now { begun = c.take.new.self } in
    let Before : List ℕ → Type 0 = λ read. HasReadIn read mid c.in-Some-Diversion.missing in
    on_block (λ read. IsRead read c.args.self.now) _ _ _ _ c.as_slice-bytes.ensures.value
    (read_on_as Before (λ read. IsRead read c.args.self.now) c.as_slice-bytes.result.now c.read_after.new.self c.read_after.result
    (λ read h. diverted_since read c.args.self.now c.take.result c.take.new.self c.in-Some-Diversion.missing
    c.take.ensures.value (rw (← c.in-Some-Diversion.field-0-is) c.in-Some-Diversion.is) h)
    (text_and_after Before c.as_slice-bytes.result.now c.in_ok-after-in-Some-Diversion.after c.read_diverted.new.self
    c.read_after.new.self c.read_after.result c.in_ok-after-in-Some-Diversion.ensures c.read_after.ensures))

pub returns-in_ok-after-in-Some-Name : goal.returns-in_ok-after-in-Some-Name
returns-in_ok-after-in-Some-Name c =
    let mid : Loading = record c.args.self.now { begun = c.take.new.self } in
    let Before : List ℕ → Type 0 = λ read. HasReadNamed read mid c.in-Some-Name.text in
    on_block (λ read. IsRead read c.args.self.now) _ _ _ _ c.as_slice-bytes.ensures.value
    (read_on_as Before (λ read. IsRead read c.args.self.now) c.as_slice-bytes.result.now c.read_after-in-Some-Name.new.self c.read_after-in-Some-Name.result
    (λ read h. named_since read c.args.self.now c.take.result c.take.new.self c.in-Some-Name.text
    c.take.ensures.value (rw (← c.in-Some-Name.field-0-is) c.in-Some-Name.is) h)
    (text_and_after Before c.as_slice-bytes.result.now c.in_ok-after-in-Some-Name.after c.read_named.new.self
    c.read_after-in-Some-Name.new.self c.read_after-in-Some-Name.result c.in_ok-after-in-Some-Name.ensures c.read_after-in-Some-Name.ensures))

pub returns-in_err-after-in-Some-Diversion : goal.returns-in_err-after-in-Some-Diversion
returns-in_err-after-in-Some-Diversion c =
    let p = err_from_is_err_and c.from_residual.result c.from_residual.ensures.1 in
    let mid : Loading = record c.args.self.now { begun = c.take.new.self } in
    rw (p.1, p.2) (on_block (λ read. IsRead read c.args.self.now) _ _ c.read_diverted.new.self (Err _)
    c.as_slice-bytes.ensures.value
    (text_stopped (λ read. HasReadIn read mid c.in-Some-Diversion.missing) (λ read. IsRead read c.args.self.now)
    c.as_slice-bytes.result.now c.read_diverted.new.self c.read_diverted.new.self c.in_err-after-in-Some-Diversion.field-0.0
    (λ read h. diverted_since read c.args.self.now c.take.result c.take.new.self c.in-Some-Diversion.missing
    c.take.ensures.value (rw (← c.in-Some-Diversion.field-0-is) c.in-Some-Diversion.is) h)
    c.in_err-after-in-Some-Diversion.ensures))

pub returns-in_err-after-in-Some-Name : goal.returns-in_err-after-in-Some-Name
returns-in_err-after-in-Some-Name c =
    let p = err_from_is_err_and c.from_residual-in_err-after-in-Some-Name.result c.from_residual-in_err-after-in-Some-Name.ensures.1 in
    let mid : Loading = record c.args.self.now { begun = c.take.new.self } in
    rw (p.1, p.2) (on_block (λ read. IsRead read c.args.self.now) _ _ c.read_named.new.self (Err _)
    c.as_slice-bytes.ensures.value
    (text_stopped (λ read. HasReadNamed read mid c.in-Some-Name.text) (λ read. IsRead read c.args.self.now)
    c.as_slice-bytes.result.now c.read_named.new.self c.read_named.new.self c.in_err-after-in-Some-Name.field-0.0
    (λ read h. named_since read c.args.self.now c.take.result c.take.new.self c.in-Some-Name.text
    c.take.ensures.value (rw (← c.in-Some-Name.field-0-is) c.in-Some-Name.is) h)
    c.in_err-after-in-Some-Name.ensures))

pub returns-in-None : goal.returns-in-None
returns-in-None c =
    let mid : Loading = record c.args.self.now { begun = c.take.new.self } in
    on_block (λ read. IsRead read c.args.self.now) _ _ _ _ c.as_slice-bytes.ensures.value
    (read_on_as (λ read. HasRead read mid) (λ read. IsRead read c.args.self.now) c.as_slice-bytes.result.now c.read_whole.new.self c.read_whole.result
    (λ read h. whole_since read c.args.self.now c.take.result c.take.new.self c.take.ensures.value c.in-None.is h)
    c.read_whole.ensures)
