use Rattle.std.proofs.Common.{◌≡◌, ◌∙◌, Bool, false, ap, ap₂, rules}
use Rattle.std.specs.Prelude.{◌||◌}
use Rattle.std.proofs.lemmas.Result.{IfOk-weaker}
use Rattle.clap.specs.Walk.{rule_of}
use Rattle.clap.specs.Simple.{App, with_rule}
use Rattle.commands.specs.Syntax.{needed}
use Rattle.commands.proofs.syntax.with_argument.Goals as goal

pub returns : goal.returns
returns c =
    let is_local : c.required.result.global ≡ false = search rules in
    let is_needed : rule_of c.required.result ≡ needed c.args.id.now = search rules in
    record {
      shape = IfOk-weaker c.arg.result _ _ (λ r adds. ap (λ (a : App). a.top) (adds.shape is_local ∙ ap₂ with_rule c.new.ensures.app is_needed)) c.arg.ensures;
      local = IfOk-weaker c.arg.result _ _ (λ r adds. adds.globals ∙ ap₂ (λ (a b : Bool). a || b) c.new.ensures.local is_local) c.arg.ensures;
    }
