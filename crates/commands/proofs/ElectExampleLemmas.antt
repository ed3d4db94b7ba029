-- The answers of the samples of `elect`.
use Rattle.std.proofs.Common.{◌≡◌, ◌≢◌, ℕ, zero, suc, [], ◌∷◌, Bool, false, None, Some, inl, inr, Ok, refl, ap, sym, ◌∙◌, subst, arith, List}
use Rattle.std.specs.Prelude.{IsTrue, is_some}
use Rattle.std.specs.Fmt.{digits}
use Rattle.std.specs.List.{All}
use Rattle.std.proofs.lemmas.Bool.{false≢true, both_ways, cases_Bool}
use Rattle.std.proofs.lemmas.Option.{same_Some, none-some}
use Rattle.std.proofs.lemmas.List.Elements.{All-nil, All-cons, All-head}
use Rattle.text_tokens.specs.Kinds.{name}
use Rattle.tri_lattice.specs.declared.node.Node.{Node}
use Rattle.tri_lattice.specs.Lattice.{node_eq}
use Rattle.tri_lattice.specs.Sets.{IsConnected}
use Rattle.tri_lattice.proofs.Nodes.{node_eq-true}
use Rattle.tri_lattice.proofs.Paths.{few_are_connected}
use Rattle.amoebot_state.specs.declared.bot.Bot.{Bot}
use Rattle.amoebot_state.specs.declared.cell.CellName.{CellName}
use Rattle.amoebot_state.specs.declared.cell.CellName.TheVariants as cell_name
use Rattle.amoebot_state.specs.declared.cell.Cell.{Cell}
use Rattle.amoebot_state.specs.Configs.{Config, IsValid, bot_at, value}
use Rattle.amoebot_state.specs.Occupied.{occupied}
use Rattle.amoebot_state.specs.Pairs.{cell_of, cell_value, plain_patch}
use Rattle.amoebot_state.specs.Steps.{Step, plain_entry}
use Rattle.amoebot_state.proofs.Faults.{frame_valid, valid_one}
use Rattle.amoebot_state.proofs.Occupants.{in_range_of}
use Rattle.action_meaning.specs.Verdicts.{verdict_shown}
use Rattle.shape_files.specs.declared.section_kind.Form.TheVariants as form
use Rattle.small_worlds.specs.Rows.{row_area, node}
use Rattle.small_worlds.proofs.Rows.{is_area}
use Rattle.election_law.specs.Elections.{IsErosion, IsReadyBot, IsReadyStart, IsElected, is_leader, is_candidate, candidate_at}
use Rattle.document_answers.specs.Journals.{at_end, DocumentRecord, in_plain, JournalOutcome, agreeing, differing, differs_line}
use Rattle.commands.specs.declared.words.DocumentCommand.TheVariants.{Elect}
use Rattle.commands.specs.Words.{of_two_words}
use Rattle.document_answers.specs.declared.status.Status.TheVariants as status
use Rattle.commands.specs.Lines.{bad_start}
use Rattle.commands.specs.Elect.{not_ready, begun}
use Rattle.commands.specs.Owed.{served}
use Rattle.commands.specs.ElectExamples.{erosion_row, candidate_bot, one_candidate, one_leader, candidate_elsewhere, leading, before_it_leads, once_it_leads, in_other_area, erosion_with_nobody, SmallElections}
use Rattle.commands.proofs.SmallDocuments.{says}
use Rattle.commands.proofs.ElectDocuments.{lined_erosion, recorded, elections_are_answered}
use Rattle.commands.proofs.ElectLemmas.{IsElectedText}
use Rattle.amoebot_state.specs.declared.verdict.Entry.{Entry}

-- ---- the worlds

-- a set that has no node but the middle one
module _ (S : Node → Bool) (away : (v : Node) → node_eq (node 1) v ≡ false → S v ≡ false) where
  in_middle : (v : Node) → IsTrue (S v) → node 1 ≡ v
  in_middle v t = elim (cases_Bool (node_eq (node 1) v)) [ inl e ↦ node_eq-true (node 1) v e | inr f ↦ absurd (both_ways _ (away v f) t) ]

  is_connected : IsConnected S
  is_connected = few_are_connected S (λ a b s t. sym (in_middle a s) ∙ in_middle b t)

is_ready_bot : (i : ℕ) (b : Bot) → bot_at one_candidate i ≡ Some b → IsReadyBot b
is_ready_bot zero b at = subst IsReadyBot (same_Some _ _ at) (record { contracted = refl; cand = refl; leader = refl })
is_ready_bot (suc i) b at = absurd (none-some b at)

ready : IsReadyStart one_candidate
ready = record { some = (0, refl); each = is_ready_bot; connected = is_connected (occupied one_candidate) (λ v f. rw f refl) }

first_stands : (i : ℕ) → IsTrue (is_candidate one_leader i) → i ≡ 0
first_stands zero t = refl
first_stands (suc i) t = absurd (false≢true t)

first_leads : (i : ℕ) → IsTrue (is_leader one_leader i) → i ≡ 0
first_leads zero t = refl
first_leads (suc i) t = absurd (false≢true t)

its_election : IsElected one_leader
its_election = record {
  some = (0, refl);
  connected = is_connected (candidate_at one_leader) (λ v f. rw f refl);
  one = λ i j s t. first_leads i s ∙ sym (first_leads j t);
  alone = λ i j s t. first_stands j t ∙ sym (first_leads i s);
  standing = λ i s. subst (λ (k : ℕ). IsTrue (is_candidate one_leader k)) (sym (first_leads i s)) refl;
}

-- ---- the only step

leader_is_valid : IsValid one_leader
leader_is_valid = valid_one erosion_row (frame_valid erosion_row is_area refl) (candidate_bot 1) (in_range_of row_area is_area (candidate_bot 1) refl refl (omega arith) refl) refl

same_ids : (i : ℕ) → is_some (bot_at one_leader i) ≡ is_some (bot_at one_candidate i)
same_ids zero = refl
same_ids (suc i) = refl

others_stay : (n : CellName) → All (λ (p : CellName × Cell). cell_of p ≢ n) (plain_patch leading.patch) → value one_leader n ≡ value one_candidate n
others_stay (cell_name.Spot v) others = refl
others_stay (cell_name.Body zero) others = absurd (All-head (λ (p : CellName × Cell). cell_of p ≢ cell_name.Body 0) _ [] others refl)
others_stay (cell_name.Body (suc i)) others = refl

leads : Step (verdict_shown lined_erosion) one_candidate leading one_leader
leads = record {
  there = refl;
  decided = refl;
  patched = record {
    valid = leader_is_valid;
    same = record { rest = refl; size = refl; ids = same_ids };
    given = All-cons (λ (p : CellName × Cell). value one_leader (cell_of p) ≡ Some (cell_value p)) _ [] refl (All-nil (λ (p : CellName × Cell). value one_leader (cell_of p) ≡ Some (cell_value p)));
    kept = others_stay;
  };
}

-- ---- the documents

is_erosion : IsErosion lined_erosion
is_erosion = refl

abbrev its_first : DocumentRecord (recorded one_candidate [] one_candidate)
its_first = record { program = lined_erosion; start = one_candidate; final = one_candidate; its_program = refl; its_shape = refl; its_final = refl }

abbrev its_second : DocumentRecord (recorded one_candidate (plain_entry leading ∷ []) one_leader)
its_second = record { program = lined_erosion; start = one_candidate; final = one_leader; its_program = refl; its_shape = refl; its_final = refl }

abbrev its_other : DocumentRecord (recorded one_candidate [] candidate_elsewhere)
its_other = record { program = lined_erosion; start = one_candidate; final = candidate_elsewhere; its_program = refl; its_shape = refl; its_final = refl }

abbrev its_nobody : DocumentRecord (recorded erosion_row [] erosion_row)
its_nobody = record { program = lined_erosion; start = erosion_row; final = erosion_row; its_program = refl; its_shape = refl; its_final = refl }

stays : (IsText : List Entry → List ℕ → Type 0) (text : List ℕ) → IsText [] text → JournalOutcome (recorded one_candidate [] one_candidate) its_first IsText status.Done None text
stays IsText text is = in_plain [] refl (agreeing [] text refl refl is)

is_led : (IsText : List Entry → List ℕ → Type 0) (text : List ℕ) → IsText (leading ∷ []) text → JournalOutcome (recorded one_candidate (plain_entry leading ∷ []) one_leader) its_second IsText status.Done None text
is_led IsText text is = in_plain (plain_entry leading ∷ []) refl (agreeing (leading ∷ []) text refl (one_leader, leads, refl) is)

-- the row has three nodes and not four
differs : (IsText : List Entry → List ℕ → Type 0) → JournalOutcome (recorded one_candidate [] candidate_elsewhere) its_other IsText (status.Differs 0) None (differs_line 0)
differs IsText = in_plain [] refl (differing 0 (at_end one_candidate (record { source = []; tells = refl; holds = refl }) (λ same. let wide : ◌≡◌ {A = ℕ} 3 4 = ap (λ (c : Config). c.area.w) same in omega (arith, wide))))

nobody_is_ready : ¬ IsReadyStart erosion_row
nobody_is_ready is = false≢true is.some.1

pub small_elections : SmallElections
unfolding digits name of_two_words
small_elections = record {
  ready = ready;
  elected = its_election;
  candidate = served Elect before_it_leads (recorded one_candidate [] one_candidate) status.Done None _ (says form.Replay before_it_leads (Ok (recorded one_candidate [] one_candidate)) elections_are_answered.candidate)
      (begun its_first status.Done None _ is_erosion ready (stays (IsElectedText one_candidate) _ refl));
  leader = served Elect once_it_leads (recorded one_candidate (plain_entry leading ∷ []) one_leader) status.Done None _ (says form.Replay once_it_leads (Ok (recorded one_candidate (plain_entry leading ∷ []) one_leader)) elections_are_answered.leader)
      (begun its_second status.Done None _ is_erosion ready (is_led (IsElectedText one_leader) _ refl));
  other_area = served Elect in_other_area (recorded one_candidate [] candidate_elsewhere) (status.Differs 0) None _ (says form.Replay in_other_area (Ok (recorded one_candidate [] candidate_elsewhere)) elections_are_answered.other_area)
      (begun its_other (status.Differs 0) None _ is_erosion ready (differs (IsElectedText candidate_elsewhere)));
  nobody = served Elect erosion_with_nobody (recorded erosion_row [] erosion_row) (status.Refused bad_start) None _ (says form.Replay erosion_with_nobody (Ok (recorded erosion_row [] erosion_row)) elections_are_answered.nobody)
      (not_ready its_nobody is_erosion nobody_is_ready);
}
