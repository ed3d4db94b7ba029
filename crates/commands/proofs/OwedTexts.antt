-- What the commands answer is what they owe.
use Rattle.std.proofs.Common.{◌≡◌, ◌<◌, ℕ, false, List, length, Option, Some, sym, subst, ap, ◌∙◌}
use Rattle.std.specs.Prelude.{IsSome, IfSome}
use Rattle.std.specs.List.{All}
use Rattle.text_tokens.specs.declared.refusal.Refusal.{Refusal}
use Rattle.amoebot_state.specs.Configs.{Config, bot_at}
use Rattle.claim_core.specs.Turns.{CallerLists, HaveBots}
use Rattle.shape_files.specs.Documents.{Contents, bots_of}
use Rattle.shape_files.specs.Fitting.{FitTogether}
use Rattle.shipped_programs.specs.declared.shipped.Shipped.{Shipped}
use Rattle.commands.specs.declared.words.Command.TheVariants.{Show}
use Rattle.commands.specs.declared.words.DocumentCommand.{DocumentCommand}
use Rattle.document_answers.specs.declared.answer.Answer.{Answer}
use Rattle.commands.specs.declared.tasks.Task.TheVariants as task
use Rattle.document_answers.specs.declared.status.Status.TheVariants as status
use Rattle.commands.specs.Commands.{IsDocumentFaultOf, row_of}
use Rattle.commands.proofs.TurnMakers.{has_none, has_workers}
use Rattle.commands.specs.Reads.{nothing}
use Rattle.commands.specs.Owed.{IsOwed, refused, served, shown}
use Rattle.commands.specs.Tasks.{IsTaskOf, IsTaskTo}
use Rattle.document_answers.specs.Answers.{IsAnswerOf, with_text, refusal_line}
use Rattle.commands.specs.Show.{show_text}
use Rattle.commands.specs.Outcomes.{IsOutcome}

pub refuses : (c : DocumentCommand) (bytes : List ℕ) (r : Refusal) (answer : Answer) → IsDocumentFaultOf c bytes r → answer ≡ with_text (status.Refused r) (refusal_line r) → IsTaskOf c bytes (task.Answered answer)
refuses c bytes r answer fault is = subst (λ (x : Answer). IsTaskOf c bytes (task.Answered x)) (sym is) (refused c bytes r fault, λ run done. cc)

-- the amoebots of a document's lists are there
pub are_there : (a : Contents) (start : Config) (lists : CallerLists) → FitTogether a → a.world ≡ Some start → a.lists ≡ Some lists → ((id : ℕ) → id < length start.bots → IsSome (bot_at start id)) → All (All (λ (id : ℕ). IsSome (bot_at start id))) lists.ids
are_there a start lists fit its_shape its_lists no_gaps =
    let of : IsSome a.world × HaveBots (bots_of a.world) lists = subst (λ (o : Option CallerLists). IfSome o (λ l. IsSome a.world × HaveBots (bots_of a.world) l)) its_lists fit.lists in
    let bots : HaveBots (length start.bots) lists = subst (λ (o : Option Config). HaveBots (bots_of o) lists) its_shape of.1 in
    λ i d inside j e within. no_gaps _ (bots i d inside j e within)

-- a shipped program is shown
pub shows : (p : Shipped) (text : List ℕ) (answer : Answer) → answer ≡ with_text status.Done text → text ≡ show_text p → IsOwed (Some (Show p)) nothing answer.status answer.report answer.text
shows p text answer same is = subst (λ (x : Answer). IsOwed (Some (Show p)) nothing x.status x.report x.text) (sym (same ∙ ap (with_text status.Done) is)) (shown p)

-- what a command answers that needs no workers is its task
pub serves : (c d : DocumentCommand) (a : Contents) (answer : Answer) → d ≡ c → has_workers (row_of c).maker ≡ false → IsAnswerOf (IsOutcome a c) answer → IsTaskTo d a (task.Answered answer)
serves c d a answer same without is = subst (λ (e : DocumentCommand). IsTaskTo e a (task.Answered answer)) (sym same)
    (λ bytes h. (served c bytes a answer.status answer.report answer.text h is, λ needs. absurd (has_none (row_of c).maker without needs)))
