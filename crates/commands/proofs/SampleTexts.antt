-- One text of a sample's report.
use Rattle.std.proofs.Common.{◌≡◌, ℕ, List, ◌*◌, sym, subst, ◌∙◌}
use Rattle.std.specs.Prelude.{length, Bool, Decides}
use Rattle.std.proofs.lemmas.Bool.Decides.{same_from_decides}
use Rattle.tri_lattice.specs.Sets.{IsConnected}
use Rattle.amoebot_state.specs.declared.verdict.Entry.{Entry}
use Rattle.amoebot_state.specs.declared.verdict.Verdict.{Verdict}
use Rattle.amoebot_state.specs.Configs.{Config}
use Rattle.amoebot_state.specs.Occupied.{occupied}
use Rattle.amoebot_state.specs.Zones.{Shown}
use Rattle.serial_model.specs.Forms.{full_entry}
use Rattle.serial_model.proofs.Runs.{full_is_itself}
use Rattle.claim_core.specs.declared.report.Report.{Report}
use Rattle.claim_core.specs.Turns.{CallerLists}
use Rattle.document_answers.specs.Journals.{Agrees, DiffersAt}
use Rattle.commands.specs.Sample.{IsSampleText, sample_text}
use Rattle.document_answers.specs.AnswerLaws.{ReplayIsDecided}
use Rattle.commands.specs.ReportLaws.{SampleTextIsOne}

pub sample_text_is_one : SampleTextIsOne
sample_text_is_one f start lists seed report text other x y =
    let connected = same_from_decides x.connected y.connected x.is_connected y.is_connected in
    let agrees = same_from_decides x.agrees y.agrees x.is_run y.is_run in
    x.whole ∙ (λ i. sample_text seed (length start.bots) (length lists.ids) (length lists.ids * lists.turns) (connected i) (agrees i)) ∙ sym y.whole

-- what agrees does not differ, under other names of its start and its entries
pub excluded : ReplayIsDecided full_entry → (f : Shown → Verdict) (start first final : Config) (entries same : List Entry) (place : ℕ) → first ≡ start → same ≡ entries → DiffersAt full_entry f first same final place → Agrees f start entries final → ⊥
excluded decided f start first final entries same place from es differs agrees =
    decided.exclusive f start final entries place ((full_is_itself.run f start final entries).1 agrees) (subst (λ (z : Config × List Entry). DiffersAt full_entry f z.0 z.1 final place) (λ i. (from i, es i)) differs)

-- the text that is told of a report's numbers is its text
pub is_text : (f : Shown → Verdict) (lists : CallerLists) (seed : ℕ) (report : Report) (bots callers turns : ℕ) (connected agrees : Bool) (text : List ℕ)
    → Decides connected (IsConnected (occupied report.world)) → Decides agrees (Agrees f report.journal.first report.journal.entries report.world)
    → bots ≡ length report.journal.first.bots → callers ≡ length lists.ids → turns ≡ length lists.ids * lists.turns → text ≡ sample_text seed bots callers turns connected agrees
    → IsSampleText f report.journal.first lists seed report text
is_text f lists seed report bots callers turns connected agrees text is_connected is_run many named all is =
    record {
      connected = connected;
      agrees = agrees;
      is_connected = is_connected;
      is_run = is_run;
      whole = is ∙ (λ i. sample_text seed (many i) (named i) (all i) connected agrees);
    }
