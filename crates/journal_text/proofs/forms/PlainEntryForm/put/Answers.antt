use Rattle.std.proofs.Common.{ap, ◌∙◌, arith}
use Rattle.amoebot_state.specs.Pairs.{Pairs}
use Rattle.journal_text.proofs.MadeEntries.{plain_length, plain_next}
use Rattle.journal_text.proofs.forms.PlainEntryForm.put.Goals as goal

pub push-requires-clause-room : goal.push-requires-clause-room
push-requires-clause-room c =
    let room = c.requires.room in
    omega (arith, plain_length room.0 c.args.self.now room.1, room.2)

pub returns : goal.returns
returns c = λ w is. (
    let a = c.args in
    ap (λ (ps : Pairs). record a.self.now { patch = ps }) c.push.ensures
    ∙ plain_next w (a.name, a._before, a.value) a.self.now is)
