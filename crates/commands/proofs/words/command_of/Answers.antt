use Rattle.std.proofs.Common.{◌≡◌, ◌∙◌, Option, None, Result, Ok, Err, IfOk, map, sym}
use Rattle.std.specs.Prelude.{MatchResult}
use Rattle.std.specs.String.{string_bytes}
use Rattle.clap.specs.Simple.{app_of}
use Rattle.clap.proofs.WalkLemmas.{list_any-map}
use Rattle.commands.specs.declared.words.Command.{Command}
use Rattle.commands.specs.Syntax.{begins_with_dash}
use Rattle.commands.proofs.CommandLemmas.{dash_is_none, is_command, is_none}
use Rattle.commands.proofs.words.command_of.Goals as goal

pub returns-then-any_begins_with_dash-clause-command : goal.returns-then-any_begins_with_dash-clause-command
returns-then-any_begins_with_dash-clause-command c = sym (dash_is_none (map string_bytes c.args.words.now) (sym (list_any-map begins_with_dash string_bytes c.args.words.now) ∙ sym c.any_begins_with_dash.ensures ∙ c.if-any_begins_with_dash.true))

pub returns-in-Ok-clause-command : goal.returns-in-Ok-clause-command
returns-in-Ok-clause-command c =
    let plain = sym (list_any-map begins_with_dash string_bytes c.args.words.now) ∙ sym c.any_begins_with_dash.ensures ∙ c.if-any_begins_with_dash.false in
    c.of_matches.ensures ∙ is_command (app_of c.in_ok-words_syntax.field-0) c.in_ok-words_syntax.ensures (map string_bytes c.args.words.now) plain c.in-Ok.matches c.in-Ok.ensures.kinds c.in-Ok.ensures.matches

-- where the words are no command, a fault that is not for want of memory says so
if_read : {E : Type 0} (r : Result (Option Command) E) (o : Option Command) (Memory : Type 0) → MatchResult r (λ c. (c ≡ None) × (Memory → ⊥)) (λ _. Memory)
    → ((Memory → ⊥) → o ≡ None) → IfOk r (λ c. c ≡ o)
if_read (Ok c) o Memory m none = m.0 ∙ sym (none m.1)
if_read (Err e) o Memory m none = tt

pub returns-in-Err-clause-command : goal.returns-in-Err-clause-command
returns-in-Err-clause-command c =
    let plain = sym (list_any-map begins_with_dash string_bytes c.args.words.now) ∙ sym c.any_begins_with_dash.ensures ∙ c.if-any_begins_with_dash.false in
    if_read c.of_fault.result _ _ c.of_fault.ensures (is_none (app_of c.in_ok-words_syntax.field-0) c.in_ok-words_syntax.ensures (map string_bytes c.args.words.now) plain c.in-Err.error c.in-Err.ensures.kinds)
