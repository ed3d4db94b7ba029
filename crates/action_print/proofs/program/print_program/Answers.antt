use Rattle.std.proofs.Common.{◌≡◌, ℕ, List, arith, subst, sym}
use Rattle.std.proofs.lemmas.Grind.{common_steps}
use Rattle.action_print.specs.Canon.{canon}
use Rattle.action_print.specs.ReadsBack.{ReadsBack}
use Rattle.action_print.proofs.program.print_program.Goals as goal

pub returns-clause-reads_back : goal.returns-clause-reads_back
returns-clause-reads_back c =
    let p = c.args.program.now in
    let text : c.text.result ≡ canon p = grind (arith, common_steps) in
    subst (λ (bytes : List ℕ). ReadsBack p bytes) (sym text) c.in_ok-put_program.ensures.reads_back
