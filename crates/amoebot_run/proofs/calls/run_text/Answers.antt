use Rattle.std.proofs.Common.{ap, Some, inl, inr, refl, sym, ◌∙◌}
use Rattle.amoebot_run.proofs.EndingTells.{tells_in_memory, tells_without}
use Rattle.amoebot_run.proofs.Endings.{ending_maps, without}
use Rattle.amoebot_run.proofs.InMemory.{not_risen, reading_of, has_text, memory_alone, told_maps}
use Rattle.amoebot_run.proofs.WorkingLemmas.{without_turns}
use Rattle.commands.specs.Reads.{nothing}
use Rattle.amoebot_run.proofs.calls.run_text.Goals as goal

pub returns-in-Ok-clause-ending : goal.returns-in-Ok-clause-ending
returns-in-Ok-clause-ending g c = ending_maps (reading_of _ _ _ _ _ _ _ (ap Some c.in-Ok.ensures)) (has_text c.text_is_kept_as_one_piece.ensures _ _) (λ text cut. not_risen cut.0) (λ same. same) _ _ _ c.run.ensures.ending

pub returns-in-Ok-clause-headline : goal.returns-in-Ok-clause-headline
returns-in-Ok-clause-headline g c = told_maps _ (reading_of _ _ _ _ _ _ _ (ap Some c.in-Ok.ensures)) (has_text c.text_is_kept_as_one_piece.ensures _ _) _ c.run.ensures.headline

pub returns-in-Err-clause-turns : goal.returns-in-Err-clause-turns
returns-in-Err-clause-turns g c = (without_turns _ _ c.end_with.ensures).turns_there

pub returns-in-Err-clause-tickets : goal.returns-in-Err-clause-tickets
returns-in-Err-clause-tickets g c = (without_turns _ _ c.end_with.ensures).tickets_there

pub returns-in-Ok-clause-complete : goal.returns-in-Ok-clause-complete
returns-in-Ok-clause-complete g c = λ command a is few holds. elim (c.run.ensures.complete command c.args.bytes.now a is (ap Some c.in-Ok.ensures) few holds) [
  | inl x ↦ inl (x.0, x.1, has_text c.text_is_kept_as_one_piece.ensures _ _ x.0 x.2)
  | inr x ↦ inr (memory_alone _ (λ e. not_risen (c.run.ensures.tells.read_fault e)) (λ e. not_risen (c.run.ensures.tells.write_fault e)) x)
]

pub returns-in-Err-clause-ending : goal.returns-in-Err-clause-ending
returns-in-Err-clause-ending g c = without nothing _ c.end_with.ensures tt tt refl

pub returns-in-Ok-clause-tells : goal.returns-in-Ok-clause-tells
returns-in-Ok-clause-tells g c = tells_in_memory (λ document same. ap Some c.in-Ok.ensures ∙ ap Some (sym same)) (has_text c.text_is_kept_as_one_piece.ensures _ _) not_risen not_risen _ _ c.run.ensures.tells

pub returns-in-Err-clause-tells : goal.returns-in-Err-clause-tells
returns-in-Err-clause-tells g c = tells_without _ c.end_with.ensures refl
