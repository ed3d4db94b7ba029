-- What holds of the grammar of programs.
use Rattle.std.specs.Prelude.{◌≡◌, ℕ, true, not, ◌&&◌, List, map}
use Rattle.std.specs.List.Sorted.{IsNonDecreasing}
use Rattle.text_tokens.specs.declared.token.TokenKind.TheVariants.{Word}
use Rattle.text_tokens.specs.declared.refusal.Refusal.{Refusal}
use Rattle.text_tokens.specs.Text.{Lexeme, AreTokens}
use Rattle.text_tokens.specs.Cursor.{is_kind, AreCut}
use Rattle.text_tokens.specs.Lawful.{IsText, IsDecided}
use Rattle.action_tree.specs.Trees.{Program}
use Rattle.action_tree.specs.Words.{reserved, is_reserved}
use Rattle.action_tree.specs.Writable.{is_writable}
use Rattle.action_tree.specs.Lines.{lines_in_program}
use Rattle.action_tree.specs.declared.role.Role.TheVariants.{AName}
use Rattle.action_tree.specs.Roles.{words, is_a}
use Rattle.action_tree.specs.Expressions.{IsExpr}
use Rattle.action_tree.specs.Statements.{IsStmts}
use Rattle.action_tree.specs.Programs.{IsProgram}

-- the words that have a role are the reserved ones
abbrev pub WordsAreReserved : Type 0
WordsAreReserved = map (λ e. e.text) words ≡ reserved

-- a name is a word that is not reserved
abbrev pub NamesAreNotReserved : Type 0
NamesAreNotReserved = (t : Lexeme) → is_a AName t ≡ (is_kind Word t && not (is_reserved t.text))

-- however many levels and names are left, expressions and lists
-- of statements say one thing of any tokens
abbrev pub ExpressionsAreDecided : Type 0
ExpressionsAreDecided = (n left : ℕ) → IsDecided (IsExpr n left)

abbrev pub StatementsAreDecided : Type 0
StatementsAreDecided = (n left : ℕ) → IsDecided (IsStmts n left)

-- A text within its limits gives a tree that is writable,
-- if its tokens are such as a text can have.
abbrev pub TextsGiveWritable : Type 0
TextsGiveWritable =
    (ts rest : List Lexeme) (p : Program) → AreCut ts → IsText IsProgram ts p rest → is_writable p ≡ true

-- as those of bytes are
abbrev pub BytesGiveWritable : Type 0
BytesGiveWritable =
    (bytes : List ℕ) (at : ℕ) (ts rest : List Lexeme) (last : Refusal) (p : Program)
    → AreTokens bytes at ts last
    → IsText IsProgram ts p rest
    → is_writable p ≡ true

-- the lines of the names and numbers of a program that bytes give never fall
abbrev pub LinesFollowText : Type 0
LinesFollowText =
    (bytes : List ℕ) (at : ℕ) (ts rest : List Lexeme) (last : Refusal) (p : Program)
    → AreTokens bytes at ts last
    → IsText IsProgram ts p rest
    → IsNonDecreasing (lines_in_program p)
