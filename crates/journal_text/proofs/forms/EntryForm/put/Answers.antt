use Rattle.std.proofs.Common.{◌++◌, ◌∷◌, [], ap, ◌∙◌, arith}
use Rattle.amoebot_state.specs.declared.cell.Cell.{Cell}
use Rattle.amoebot_state.specs.Pairs.{Triples}
use Rattle.journal_text.proofs.MadeEntries.{full_length, full_next}
use Rattle.journal_text.proofs.forms.EntryForm.put.Goals as goal

pub push-requires-clause-room : goal.push-requires-clause-room
push-requires-clause-room c =
    let room = c.requires.room in
    omega (arith, full_length room.0 c.args.self.now room.1, room.2)

pub returns : goal.returns
returns c = λ w is. (
    let a = c.args in
    let pushed =
    c.push.ensures
    ∙ ap (λ (x : Cell). a.self.now.patch ++ (a.name, x, a.value) ∷ []) c.unwrap_or.ensures in
    ap (λ (ts : Triples). record a.self.now { patch = ts }) pushed
    ∙ full_next w (a.name, a.before, a.value) a.self.now is)
