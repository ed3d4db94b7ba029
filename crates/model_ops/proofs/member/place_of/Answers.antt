use Rattle.std.proofs.Common.{◌∙◌, ap, nat_eq}
use Rattle.std.specs.Prelude.{is_some}
use Rattle.model_ops.specs.declared.member.Member.{Member}
use Rattle.model_ops.proofs.Members.{any_placed}
use Rattle.model_ops.proofs.member.place_of.Goals as goal

pub unwrap-requires : goal.unwrap-requires
unwrap-requires c = ap is_some c.first_with.ensures ∙ any_placed (λ (m : Member). nat_eq m.id c.args.id) c.args.members.now c.requires
