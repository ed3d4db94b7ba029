use Rattle.std.proofs.Common.{◌≡◌, ◌∙◌, ap, refl, true}
use Rattle.clap.specs.Simple.{App, Shape, app_of, app_of_fields, on_top}
use Rattle.clap.specs.declared.builder.command.Command.{Command}
use Rattle.clap.specs.declared.builder.command.Command.TheOpen.{Command-F}
use Rattle.clap.specs.declared.builder.command.Command.TheViews.{out-Command}
use Rattle.commands.proofs.syntax.bare.Goals as goal

-- a command with one more setting, as a parse reads it
set : (fields : Command-F Command → Command-F Command) (setting : Shape → Shape) → ((x : Command-F Command) → app_of_fields (fields x) ≡ on_top setting (app_of_fields x))
    → (old new : Command) (app : App) → out-Command new ≡ fields (out-Command old) → app_of old ≡ app → app_of new ≡ on_top setting app
set fields setting read old new app is same = ap app_of_fields is ∙ read (out-Command old) ∙ ap (on_top setting) same

no_name : (old new : Command) (app : App) → out-Command new ≡ record (out-Command old) { no_binary_name = true } → app_of old ≡ app → app_of new ≡ on_top (λ s. record s { no_binary_name = true }) app
no_name = set (λ x. record x { no_binary_name = true }) (λ s. record s { no_binary_name = true }) (λ x. refl)

no_help : (old new : Command) (app : App) → out-Command new ≡ record (out-Command old) { disable_help_flag = true } → app_of old ≡ app → app_of new ≡ on_top (λ s. record s { disable_help_flag = true }) app
no_help = set (λ x. record x { disable_help_flag = true }) (λ s. record s { disable_help_flag = true }) (λ x. refl)

no_help_word : (old new : Command) (app : App) → out-Command new ≡ record (out-Command old) { disable_help_subcommand = true } → app_of old ≡ app → app_of new ≡ on_top (λ s. record s { disable_help_subcommand = true }) app
no_help_word = set (λ x. record x { disable_help_subcommand = true }) (λ s. record s { disable_help_subcommand = true }) (λ x. refl)

no_version : (old new : Command) (app : App) → out-Command new ≡ record (out-Command old) { disable_version_flag = true } → app_of old ≡ app → app_of new ≡ on_top (λ s. record s { disable_version_flag = true }) app
no_version = set (λ x. record x { disable_version_flag = true }) (λ s. record s { disable_version_flag = true }) (λ x. refl)

wants_word : (old new : Command) (app : App) → out-Command new ≡ record (out-Command old) { subcommand_required = true } → app_of old ≡ app → app_of new ≡ on_top (λ s. record s { subcommand_required = true }) app
wants_word = set (λ x. record x { subcommand_required = true }) (λ s. record s { subcommand_required = true }) (λ x. refl)

pub returns : goal.returns
returns c =
    wants_word c.disable_version_flag.result c.subcommand_required.result _ c.subcommand_required.ensures
    (no_version c.disable_help_subcommand.result c.disable_version_flag.result _ c.disable_version_flag.ensures
    (no_help_word c.disable_help_flag.result c.disable_help_subcommand.result _ c.disable_help_subcommand.ensures
    (no_help c.no_binary_name.result c.disable_help_flag.result _ c.disable_help_flag.ensures
    (no_name c.new.result c.no_binary_name.result _ c.no_binary_name.ensures c.new.ensures.app))))
