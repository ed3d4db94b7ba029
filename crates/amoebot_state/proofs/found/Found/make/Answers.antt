use Rattle.std.proofs.Common.{◌∙◌, ap, sym}
use Rattle.std.specs.Prelude.{is_some}
use Rattle.std.proofs.lemmas.Option.{same_Some}
use Rattle.amoebot_state.specs.Ways.{ways_of}
use Rattle.amoebot_state.proofs.Shows.{shown_own, own_fits}
use Rattle.amoebot_state.proofs.found.Found.make.Goals as goal

pub own_in-own-requires : goal.own_in-own-requires
own_in-own-requires c = ap is_some (shown_own _ c.requires.shown).1

pub ways_of-requires-clause-in_range : goal.ways_of-requires-clause-in_range
ways_of-requires-clause-in_range c = (own_fits _ c.own_in-own.result c.requires.shown c.own_in-own.ensures).0

pub ways_of-requires-clause-few : goal.ways_of-requires-clause-few
ways_of-requires-clause-few c = (own_fits _ c.own_in-own.result c.requires.shown c.own_in-own.ensures).1

pub with_ways-requires-clause-known : goal.with_ways-requires-clause-known
with_ways-requires-clause-known c = λ own is. c.ways_of.ensures ∙ ap (ways_of c.args.area) (same_Some c.own_in-own.result own (c.own_in-own.ensures ∙ sym is))
