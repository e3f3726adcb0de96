use Rattle.std.proofs.Common.{rules, take, ◌∙◌, ◌≡◌, ℕ, sym, subst}
use Rattle.m4_tool.specs.FailureCounts.{Rose}
use Rattle.m4_tool.proofs.MadeFiles.{begun_so, stands_at, put_stands, put_tried, put_takes, takes_none}
use Rattle.m4_tool.proofs.MarkedFiles.{put_marked, marked_stands, marked_text}
use Rattle.m4_tool.proofs.late.LateFileByteSink.put.Goals as goal

pub invariant_of-self-in-Ok-1 : goal.invariant_of-self-in-Ok-1
invariant_of-self-in-Ok-1 g c =
    let s = c.args.self.now in
    let b = begun_so g.K.LateStart.name g.K.LateStart.before (g.W.World.files s.world)
    (g.W.World.files c.create_once.new.world) s.created c.as_slice.result.now c.create_once.result s.agrees
    (λ f e. c.as_slice.ensures.value ∙ s.named f e) (search rules) c.create_once.ensures.begun in
    let more = take c.in-Ok.n c.args.bytes.now in
    let m = put_marked g.K.LateStart.name c.as_slice.result.now c.as_slice-2.result.now g.K.LateStart.kept
    (g.W.World.kept s.world) (g.W.World.kept c.create_once.new.world) (g.W.World.kept c.append.new.self) s.created
    c.create_once.result s.keeps s.marked
    (λ f e. c.as_slice.ensures.value ∙ s.kept_named f e) (λ f e. c.as_slice-2.ensures.value ∙ s.kept_named f e)
    (search rules) c.create_once.ensures.marked c.create_once.ensures.still_marked c.append.ensures.marked in
    let same : g.W.World.failures c.append.new.self ≡ g.W.World.failures s.world = search rules in
    record {
      named = s.named;
      agrees = put_stands g.K.LateStart.name c.as_slice-2.result.now more g.K.LateStart.before _ _
          (g.W.World.files c.append.new.self) s.created (λ f e. c.as_slice-2.ensures.value ∙ s.named f e) b
          c.in-Ok.ensures.appended;
      kept_named = s.kept_named;
      keeps = marked_stands g.K.LateStart.name g.K.LateStart.kept (g.W.World.kept c.append.new.self) m;
      marked = marked_text g.K.LateStart.name g.K.LateStart.kept (g.W.World.kept c.append.new.self) m;
      tried = put_tried g.K.LateStart.name c.as_slice-2.result.now c.args.bytes.now c.in-Ok.n g.K.LateStart.before _ _
          (g.W.World.files c.append.new.self) s.created s.failures (λ f e. c.as_slice-2.ensures.value ∙ s.named f e) b
          c.in-Ok.ensures.appended c.in-Ok.ensures.some c.in-Ok.ensures.within;
      unfailed = λ z. same ∙ s.unfailed z;
      failed = λ z. subst (λ (x : ℕ). Rose g.K.LateStart.failures x) (sym same) (s.failed z);
    }

pub invariant_of-self-in-Err-clause-keeps : goal.invariant_of-self-in-Err-clause-keeps
invariant_of-self-in-Err-clause-keeps g c =
    let s = c.args.self.now in
    let m = put_marked g.K.LateStart.name c.as_slice.result.now c.as_slice-2.result.now g.K.LateStart.kept
    (g.W.World.kept s.world) (g.W.World.kept c.create_once.new.world) (g.W.World.kept c.append.new.self) s.created
    c.create_once.result s.keeps s.marked
    (λ f e. c.as_slice.ensures.value ∙ s.kept_named f e) (λ f e. c.as_slice-2.ensures.value ∙ s.kept_named f e)
    (search rules) c.create_once.ensures.marked c.create_once.ensures.still_marked c.append.ensures.marked in
    marked_stands g.K.LateStart.name g.K.LateStart.kept (g.W.World.kept c.append.new.self) m

pub invariant_of-self-in-Err-clause-marked : goal.invariant_of-self-in-Err-clause-marked
invariant_of-self-in-Err-clause-marked g c =
    let s = c.args.self.now in
    let m = put_marked g.K.LateStart.name c.as_slice.result.now c.as_slice-2.result.now g.K.LateStart.kept
    (g.W.World.kept s.world) (g.W.World.kept c.create_once.new.world) (g.W.World.kept c.append.new.self) s.created
    c.create_once.result s.keeps s.marked
    (λ f e. c.as_slice.ensures.value ∙ s.kept_named f e) (λ f e. c.as_slice-2.ensures.value ∙ s.kept_named f e)
    (search rules) c.create_once.ensures.marked c.create_once.ensures.still_marked c.append.ensures.marked in
    marked_text g.K.LateStart.name g.K.LateStart.kept (g.W.World.kept c.append.new.self) m

pub invariant_of-self-in-Err-clause-agrees : goal.invariant_of-self-in-Err-clause-agrees
invariant_of-self-in-Err-clause-agrees g c =
    let s = c.args.self.now in
    let b = begun_so g.K.LateStart.name g.K.LateStart.before (g.W.World.files s.world)
    (g.W.World.files c.create_once.new.world) s.created c.as_slice.result.now c.create_once.result s.agrees
    (λ f e. c.as_slice.ensures.value ∙ s.named f e) (search rules) c.create_once.ensures.begun in
    let same : g.W.World.files c.append.new.self ≡ g.W.World.files c.create_once.new.world = search rules in
    stands_at g.K.LateStart.name b.bytes g.K.LateStart.before (g.W.World.files c.append.new.self) (same ∙ b.files)

pub returns-in-Ok-clause-takes : goal.returns-in-Ok-clause-takes
returns-in-Ok-clause-takes g c =
    let s = c.args.self.now in
    let b = begun_so g.K.LateStart.name g.K.LateStart.before (g.W.World.files s.world)
    (g.W.World.files c.create_once.new.world) s.created c.as_slice.result.now c.create_once.result s.agrees
    (λ f e. c.as_slice.ensures.value ∙ s.named f e) (search rules) c.create_once.ensures.begun in
    put_takes g.K.LateStart.name c.as_slice-2.result.now (take c.in-Ok.n c.args.bytes.now) g.K.LateStart.before _ _
    (g.W.World.files c.append.new.self) s.created (λ f e. c.as_slice-2.ensures.value ∙ s.named f e) b c.in-Ok.ensures.appended

pub returns-in-Err-clause-unchanged : goal.returns-in-Err-clause-unchanged
returns-in-Err-clause-unchanged g c =
    let s = c.args.self.now in
    let b = begun_so g.K.LateStart.name g.K.LateStart.before (g.W.World.files s.world)
    (g.W.World.files c.create_once.new.world) s.created c.as_slice.result.now c.create_once.result s.agrees
    (λ f e. c.as_slice.ensures.value ∙ s.named f e) (search rules) c.create_once.ensures.begun in
    takes_none _ g.K.LateStart.name g.K.LateStart.before _ _ (g.W.World.files c.append.new.self) s.created b (search rules)
