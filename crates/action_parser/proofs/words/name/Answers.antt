use Rattle.action_parser.proofs.RoleFacts.{name_text}
use Rattle.action_parser.proofs.words.name.Goals as goal

pub new-requires : goal.new-requires
new-requires c = name_text c.args.tokens.now c.token.new.tokens c.in_ok-found.found _ c.in_ok-found.ensures.spells c.in_ok-found.ensures.reads c.text.ensures
