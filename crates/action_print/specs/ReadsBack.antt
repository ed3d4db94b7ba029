-- The canonical text of a program is a text of the grammar.
use Rattle.std.specs.Prelude.{◌≡◌, ℕ, true, List, [], Ok}
use Rattle.text_tokens.specs.declared.refusal.Refusal.{Refusal}
use Rattle.text_tokens.specs.declared.refusal.RefusalKind.TheVariants.{Truncated}
use Rattle.text_tokens.specs.Text.{Lexeme, AreTokens}
use Rattle.text_tokens.specs.Lawful.{IsText}
use Rattle.action_tree.specs.Trees.{Program}
use Rattle.action_tree.specs.Writable.{is_writable}
use Rattle.action_tree.specs.Lines.{without_lines}
use Rattle.action_tree.specs.Programs.{IsProgram}
use Rattle.action_tree.specs.ProgramReaders.{a_program}
use Rattle.action_print.specs.Canon.{canon}

-- The tokens are a text of the grammar within its limits, which stands for the same program,
-- lines aside, and nothing stands behind it.
pub record AreReadAs (p : Program) (ts : List Lexeme) (last : Refusal) : Type 0 where
  pub program : Program
  pub text : IsText IsProgram ts program []
  pub same : without_lines program ≡ without_lines p
  pub ends : last.kind ≡ Truncated

-- whatever tokens a text has, they are read as this program
abbrev pub ReadsBack : Program → List ℕ → Type 0
ReadsBack p text = (ts : List Lexeme) (last : Refusal) → AreTokens text 0 ts last → AreReadAs p ts last

-- the canonical text of each program is read as that program
abbrev pub CanonReadsBack : Type 0
CanonReadsBack = (p : Program) → is_writable p ≡ true → ReadsBack p (canon p)

-- so the reader of programs gives that program, and leaves nothing
abbrev pub CanonIsRead : Type 0
CanonIsRead =
    (p : Program)
    → is_writable p ≡ true
    → (ts : List Lexeme) (last : Refusal)
    → AreTokens (canon p) 0 ts last
    → (q : Program) × (a_program last ts ≡ Ok (q, [])) × (without_lines q ≡ without_lines p)

-- programs that are equal without their lines have one canonical text
abbrev pub CanonIgnoresLines : Type 0
CanonIgnoresLines = (p q : Program) → without_lines p ≡ without_lines q → canon p ≡ canon q
