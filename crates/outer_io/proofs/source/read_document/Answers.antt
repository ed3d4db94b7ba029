use Rattle.std.proofs.Common.{◌≡◌, ◌++◌, take, Result, Ok, Err, arith, rules, subst, sym, ◌∙◌}
use Rattle.std.specs.Prelude.{IfErr, IsErrAnd}
use Rattle.std.specs.Io.KnownBytes.{Consumes}
use Rattle.std.proofs.lemmas.List.{length-take}
use Rattle.std.proofs.lemmas.Grind.{common_steps}
use Rattle.std.proofs.KnownBytes.{Consumes-trans}
use Rattle.outer_io.specs.declared.errors.ReadError.{ReadError}
use Rattle.outer_io.specs.declared.errors.ReadError.TheVariants.{NoMemory}
use Rattle.outer_io.specs.Calls.{Passed, none, more}
use Rattle.outer_io.proofs.Grown.{length-append_take, got_front, some_taken}
use Rattle.outer_io.proofs.source.read_document.Goals as goal

pub reads-init : goal.reads-init
reads-init g c = record {
  got = search rules;
  reads = subst (λ bytes. Passed g.S.Source.gives c.args.source.now bytes c.args.source.now) (sym c.new-bytes.ensures.items) none;
  within = omega (arith, c.new-bytes.ensures.len);
  never_falls = omega arith;
}

pub reads-preserved : goal.reads-preserved
reads-preserved g c =
    let items = got_front c.reads.bytes.items c.read.new.piece _ c.in-Ok.got c.in-Ok.ensures.bound.0 ∙ sym c.in_ok-extend_from_slice.ensures.items in
    record {
      got = subst (λ bytes. Consumes (g.S.Source.left c.args.source.now) (g.S.Source.left c.read.new.self) bytes) items (Consumes-trans _ _ _ _ _ c.reads.invariant.got c.in-Ok.ensures.bytes.0);
      reads = subst (λ bytes. Passed g.S.Source.gives c.args.source.now bytes c.read.new.self) items (more c.reads.invariant.reads (some_taken c.read.new.piece c.in-Ok.got (omega arith) c.in-Ok.ensures.bound.0) c.in-Ok.ensures.call);
      within = search rules;
      never_falls = omega arith;
    }

pub returns-then-got-eq0-clause-whole : goal.returns-then-got-eq0-clause-whole
returns-then-got-eq0-clause-whole g c = record {
  all = search rules;
  end = search rules;
  within = search rules;
  reads = record {
    before = c.reads.source;
    passed = c.reads.invariant.reads;
    ended = subst (λ count. g.S.Source.gives c.reads.source (take count c.read.new.piece) c.read.new.self) c.if-got-eq0.true c.in-Ok.ensures.call;
  };
}

pub returns-in-Err-clause-refused : goal.returns-in-Err-clause-refused
returns-in-Err-clause-refused g c = (
  c.reads.bytes.items,
  record {
    all = grind (arith, common_steps);
    within = omega arith;
    reads = record { before = c.reads.source; passed = c.reads.invariant.reads; failed = c.in-Err.ensures.call };
  },
)

pub returns-then-len-got-clause-refused : goal.returns-then-len-got-clause-refused
returns-then-len-got-clause-refused g c = (
  c.reads.bytes.items ++ take c.in-Ok.got c.read.new.piece,
  record {
    all = Consumes-trans _ _ _ _ _ c.reads.invariant.got c.in-Ok.ensures.bytes.0;
    above = omega (arith, length-append_take c.reads.bytes.items c.read.new.piece c.in-Ok.got, c.in-Ok.ensures.bound, length-take c.min-room.result c.reads.piece);
    reads = more c.reads.invariant.reads (some_taken c.read.new.piece c.in-Ok.got (omega arith) c.in-Ok.ensures.bound.0) c.in-Ok.ensures.call;
  },
)

-- what is so of the only error is so of the error
of_no_memory : {A : Type 0} (r : Result A ReadError) (P : ReadError → Type 0) → IsErrAnd r (λ error. error ≡ NoMemory) → P NoMemory → IfErr r P
of_no_memory (Ok a) P is so = tt
of_no_memory (Err error) P is so = subst P (sym is) so

pub returns-in_err-extend_from_slice-clause-refused : goal.returns-in_err-extend_from_slice-clause-refused
returns-in_err-extend_from_slice-clause-refused g c = of_no_memory c.from_residual.result _ c.from_residual.ensures.1 (
  c.reads.bytes.items ++ take c.in-Ok.got c.read.new.piece,
  record {
    all = Consumes-trans _ _ _ _ _ c.reads.invariant.got c.in-Ok.ensures.bytes.0;
    within = omega (arith, length-append_take c.reads.bytes.items c.read.new.piece c.in-Ok.got, c.in-Ok.ensures.bound, length-take c.min-room.result c.reads.piece);
    reads = more c.reads.invariant.reads (some_taken c.read.new.piece c.in-Ok.got (omega arith) c.in-Ok.ensures.bound.0) c.in-Ok.ensures.call;
  },
)
