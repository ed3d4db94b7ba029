-- The command `measure`: how many amoebots a shape has, whether it is connected,
-- and whether it is a hexagon.
use Rattle.std.specs.Prelude.{◌≡◌, ℕ, Bool, true, false, List, [], ◌∷◌, ◌++◌, length, codes, decimal, Decides}
use Rattle.std.specs.declared.option.Option.{Option}
use Rattle.std.specs.declared.option.Option.TheVariants.{Some}
use Rattle.std.specs.Option.{option_or}
use Rattle.text_tokens.specs.Lines.{line_text}
use Rattle.claim_core.specs.declared.report.Report.{Report}
use Rattle.shape_files.specs.Documents.{Contents}
use Rattle.document_answers.specs.declared.status.Status.{Status}
use Rattle.document_answers.specs.Texts.{TextOutcome}
use Rattle.tri_lattice.specs.Sets.{IsConnected}
use Rattle.amoebot_state.specs.Configs.{Config}
use Rattle.amoebot_state.specs.Occupied.{occupied}
use Rattle.shape_checks.specs.Hexagons.{IsHexagon}

abbrev pub yes_or_no : Bool → List ℕ
yes_or_no true = codes "yes"
yes_or_no false = codes "no"

abbrev pub measure_text : ℕ → Bool → Bool → List ℕ
measure_text bots connected hexagon =
    line_text (codes "bots" ∷ decimal bots ∷ []) ++ line_text (codes "connected" ∷ yes_or_no connected ∷ [])
    ++ line_text (codes "hexagon" ∷ yes_or_no hexagon ∷ [])

-- the text of a shape: each answer is yes exactly where it is so
pub record IsMeasureText (c : Config) (text : List ℕ) : Type 0 where
  pub connected : Bool
  pub hexagon : Bool
  pub is_connected : Decides connected (IsConnected (occupied c))
  pub is_hexagon : Decides hexagon (IsHexagon c)
  pub whole : text ≡ measure_text (length c.bots) connected hexagon

-- the last shape of a document: the one at the end, if it has that, else the one at the start
abbrev pub last_shape : Contents → Option Config
last_shape a = option_or a.final_world a.world

-- the text is that of the document's last shape
abbrev pub MeasureOutcome : Contents → Status → Option Report → List ℕ → Type 0
MeasureOutcome a =
    TextOutcome (λ (text : List ℕ). (last : Config) × (last_shape a ≡ Some last) × IsMeasureText last text)
