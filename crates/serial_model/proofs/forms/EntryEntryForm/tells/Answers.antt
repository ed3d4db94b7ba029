use Rattle.std.proofs.Common.{◌≡◌, ap, sym, subst}
use Rattle.std.specs.Bool.{Decides}
use Rattle.amoebot_state.specs.declared.verdict.Entry.{Entry}
use Rattle.amoebot_state.specs.Pairs.{Triples}
use Rattle.serial_model.specs.SameChanges.{patches_decide}
use Rattle.serial_model.proofs.forms.EntryEntryForm.tells.Goals as goal

pub returns-then-does : goal.returns-then-does
returns-then-does c =
    let e = c.args.self.now in
    let head = c.does.ensures.0 c.if-does.true in
    let patches = subst (λ (z : Triples × Triples). Decides c.eq.result (z.0 ≡ z.1)) (λ i. (c.triples.ensures.value i, c.triples-then-does.ensures.value i)) (patches_decide c.triples.result.now c.triples-then-does.result.now c.eq.result c.eq.ensures) in (
      λ same. λ i. record { caller = e.caller; turn = e.turn; bot = e.bot; action = sym head.0 i; moved = sym head.1 i; patch = sym (patches.0 same) i },
      λ is. patches.1 (sym (ap (λ (x : Entry). x.patch) is)),
    )
