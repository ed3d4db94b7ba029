use Rattle.std.proofs.Common.{◌≡◌, ◌∙◌, List, Option, Some, None, ap, option_map}
use Rattle.std.specs.Prelude.{Box}
use Rattle.std.specs.Box.{box_value}
use Rattle.clap.specs.Walk.{Row, Text}
use Rattle.clap.specs.Simple.{subcommand_rows}
use Rattle.clap.specs.declared.parser.matches.SubCommand.{SubCommand}
use Rattle.clap.specs.declared.parser.matches.ArgMatches.TheViews.{out-ArgMatches, out-SubCommand}
use Rattle.commands.specs.Syntax.{of_subcommand}
use Rattle.commands.proofs.words.of_matches.Goals as goal

-- a name and the rows of a subcommand
are_both : {Z : Type 0} (o : Option (Box SubCommand Z)) (word : Text) (rows : List Row) → Some word ≡ option_map (λ b. (out-SubCommand (box_value b)).name.now) o
    → Some rows ≡ option_map (λ p. p.1) (subcommand_rows o) → Some (word, rows) ≡ subcommand_rows o
are_both None word rows e f = absurd (cc)
are_both (Some b) word rows e f = cc

pub returns : goal.returns
returns c = c.of_subcommand.ensures ∙ ap of_subcommand (are_both (out-ArgMatches c.args.matches.now).subcommand _ _ c.in_ok-word.ensures.name c.in_ok-word.ensures.rows)
