use Rattle.std.proofs.Common.{map, Vec}
use Rattle.std.specs.declared.alloc.Global.{Global}
use Rattle.text_tokens.specs.declared.groups.Group.{Group}
use Rattle.text_tokens.specs.Groups.{AreGroups, groups_to_end}
use Rattle.text_tokens.specs.GroupViews.{written_group}
use Rattle.text_tokens.proofs.GroupLaws.{exact_groups}
use Rattle.text_tokens.proofs.ExactReaders.{tells_of, reads_of}
use Rattle.text_tokens.proofs.groups.read_groups.Goals as goal

pub returns-clause-tells : goal.returns-clause-tells
returns-clause-tells c = tells_of AreGroups (λ (v : Vec Group Global). map written_group v.items) groups_to_end exact_groups c.args.tokens.now c.read_whole.result c.read_whole.new.tokens c.read_whole.ensures

pub returns-clause-reads : goal.returns-clause-reads
returns-clause-reads c = reads_of AreGroups (λ (v : Vec Group Global). map written_group v.items) groups_to_end exact_groups c.args.tokens.now c.read_whole.result c.read_whole.new.tokens c.read_whole.ensures
