-- The section `turns`. It is read by its grammar alone, and stands for nothing.
--   turns   := "turns" { "turn" NUMBER NUMBER mark } "end"
--   mark    := "done" NUMBER | "idle" NUMBER | "failed" failure NUMBER | busy
--   busy    := "busy" cell "by" NUMBER NUMBER NUMBER "place" NUMBER
--   cell    := "spot" node | "body" NUMBER
--   failure := one of the words of failures
-- The last of them, `blocked`, is one only where the version may have walls.
-- There is no rule on ranges but that on the coordinates of cells,
-- and no limit on the number of turns.
use Rattle.std.specs.Prelude.{ℕ, Bool, ◌&&◌, if◌then◌else◌, List, [], ◌∷◌, take, map, codes}
use Rattle.std.specs.List.{list_any}
use Rattle.std.specs.Str.{bytes_eq}
use Rattle.text_tokens.specs.declared.token.TokenKind.TheVariants.{Word}
use Rattle.text_tokens.specs.Text.{Lexeme}
use Rattle.text_tokens.specs.Cursor.{is_kind}
use Rattle.text_tokens.specs.Grammar.{Lang, Then, Made, IsThe, Closed, Either, Repeated}
use Rattle.amoebot_state.specs.declared.verdict.Failure.TheVariants as failure
use Rattle.shape_text.specs.Parts.{word, is_end, may_have_walls, IsWord, IsNumber}
use Rattle.journal_text.specs.Journals.{IsCellText}
use Rattle.journal_text.specs.Texts.{failure_word}

abbrev pub Nothing : Type 0
Nothing = Unit {0}

-- a part, for nothing
abbrev pub Unheeded : {A : Type 0} → Lang A → Lang Nothing
Unheeded P = Made P (λ a. tt)

abbrev pub failure_words : List (List ℕ)
failure_words =
    map failure_word (failure.NoPort ∷ failure.NoNeighbour ∷ failure.OutOfRange ∷ failure.Occupied
    ∷ failure.NotContracted ∷ failure.NotExpanded ∷ failure.PeerNotExpanded ∷ failure.PeerNotContracted
    ∷ failure.Edge ∷ failure.WouldSplit ∷ failure.NoChoice ∷ failure.Blocked ∷ [])

-- so many failures have words in texts of the version
abbrev pub failure_count : ℕ → ℕ
failure_count version = if may_have_walls version then 12 else 11

unfoldable pub names_failure : ℕ → List ℕ → Bool
names_failure version text =
    list_any (λ word. bytes_eq word text) (take (failure_count version) failure_words)

abbrev pub is_failure : ℕ → Lexeme → Bool
is_failure version t = is_kind Word t && names_failure version t.text

-- ---- marks

-- a mark with a place
abbrev pub IsPlacedMark : List ℕ → Lang Nothing
IsPlacedMark text = Then (IsWord text) (λ line. Unheeded IsNumber)

abbrev pub IsFailed : ℕ → Lang Nothing
IsFailed version =
    Then (IsWord (codes "failed")) (λ line. Then (IsThe (is_failure version)) (λ line. Unheeded IsNumber))

-- the caller, the turn and the amoebot of a claim
abbrev pub IsClaimant : Lang Nothing
IsClaimant =
    Then (IsWord (codes "by")) (λ line. Then IsNumber (λ caller. Then IsNumber (λ turn. Unheeded IsNumber)))

abbrev pub IsBusy : Lang Nothing
IsBusy = Then (IsWord (codes "busy")) (λ line.
    Then IsCellText (λ c. Then IsClaimant (λ u. IsPlacedMark (codes "place"))))

abbrev pub IsMark : ℕ → Lang Nothing
IsMark version = Either (IsPlacedMark (codes "done"))
    (Either (IsPlacedMark (codes "idle")) (Either (IsFailed version) IsBusy))

-- ---- the section

abbrev pub is_turn : Lexeme → Bool
is_turn = word (codes "turn")

abbrev pub IsTurnLine : ℕ → Lang Nothing
IsTurnLine version =
    Then (IsWord (codes "turn")) (λ line. Then IsNumber (λ caller. Then IsNumber (λ turn. IsMark version)))

abbrev pub as_before : Nothing → Nothing → Nothing
as_before s u = s

abbrev pub AreTurns : ℕ → Lang (List Nothing)
AreTurns version = Repeated (λ s. IsTurnLine version) as_before tt

-- the version is the document's
abbrev pub IsTurns : ℕ → Lang Nothing
IsTurns version = Then (IsWord (codes "turns")) (λ line. Closed (Unheeded (AreTurns version)) is_end)
