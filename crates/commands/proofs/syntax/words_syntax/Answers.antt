use Rattle.std.proofs.Common.{◌≡◌, ◌∙◌, ap, ap₂}
use Rattle.std.proofs.lemmas.Result.{IfOk-weaker}
use Rattle.clap.specs.Simple.{App, with_subcommand}
use Rattle.commands.proofs.syntax.words_syntax.Goals as goal

top : {a b : App} → a ≡ b → a.top ≡ b.top
top e = ap (λ (a : App). a.top) e

pub returns : goal.returns
returns c =
    let one = c.in_ok-subcommand.ensures.shape c.new.ensures.local ∙ ap₂ with_subcommand c.bare.ensures (top c.new.ensures.app) in
    let two = c.in_ok-subcommand-2.ensures.shape c.new-2.ensures.local ∙ ap₂ with_subcommand one (top c.new-2.ensures.app) in
    let three = c.in_ok-subcommand-3.ensures.shape c.new-3.ensures.local ∙ ap₂ with_subcommand two (top c.new-3.ensures.app) in
    let four = c.in_ok-subcommand-4.ensures.shape c.new-4.ensures.local ∙ ap₂ with_subcommand three (top c.new-4.ensures.app) in
    let five = c.in_ok-subcommand-5.ensures.shape c.new-5.ensures.local ∙ ap₂ with_subcommand four (top c.new-5.ensures.app) in
    let six = c.in_ok-subcommand-6.ensures.shape c.new-6.ensures.local ∙ ap₂ with_subcommand five (top c.new-6.ensures.app) in
    let seven = c.in_ok-subcommand-7.ensures.shape c.new-7.ensures.local ∙ ap₂ with_subcommand six (top c.new-7.ensures.app) in
    let eight = c.in_ok-subcommand-8.ensures.shape c.new-8.ensures.local ∙ ap₂ with_subcommand seven (top c.new-8.ensures.app) in
    let nine = c.in_ok-subcommand-9.ensures.shape c.new-9.ensures.local ∙ ap₂ with_subcommand eight (top c.new-9.ensures.app) in
    let ten = c.in_ok-subcommand-10.ensures.shape c.in_ok-with_argument.ensures.local ∙ ap₂ with_subcommand nine c.in_ok-with_argument.ensures.shape in
    let eleven = c.in_ok-subcommand-11.ensures.shape c.in_ok-with_argument-2.ensures.local ∙ ap₂ with_subcommand ten c.in_ok-with_argument-2.ensures.shape in
    IfOk-weaker c.subcommand-12.result _ _ (λ r adds. adds.shape c.in_ok-with_argument-3.ensures.local ∙ ap₂ with_subcommand eleven c.in_ok-with_argument-3.ensures.shape) c.subcommand-12.ensures
