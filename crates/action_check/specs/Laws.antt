-- What holds of the rules on names and ranges.
use Rattle.std.specs.Prelude.{◌≡◌, ℕ, List, true, map}
use Rattle.std.specs.List.Sorted.{IsNonDecreasing}
use Rattle.text_tokens.specs.declared.refusal.Refusal.{Refusal}
use Rattle.text_tokens.specs.Text.{Lexeme, AreTokens}
use Rattle.text_tokens.specs.Lawful.{IsText}
use Rattle.action_tree.specs.Trees.{Program}
use Rattle.action_tree.specs.Programs.{IsProgram}
use Rattle.action_tree.specs.Writable.{is_writable}
use Rattle.action_tree.specs.Lines.{without_lines, lines_in_program}
use Rattle.action_tree.specs.Shipped.{line, erosion, hexagon}
use Rattle.action_check.specs.Faults.{faults, AreRulesKept}
use Rattle.action_check.specs.Rules.{ProgramKept}
use Rattle.action_check.specs.Rows.{rows}

-- where nothing is wrong, each part is what an evaluation relies on;
-- within the limits of the grammar, at most so many names are in force
abbrev pub FaultlessIsKept : Type 0
FaultlessIsKept = (p : Program) → is_writable p ≡ true → AreRulesKept p → ProgramKept p

abbrev pub KeptIsFaultless : Type 0
KeptIsFaultless = (p : Program) → ProgramKept p → AreRulesKept p

-- programs that are equal without their lines have the same faults, apart from lines
abbrev pub FaultsIgnoreLines : Type 0
FaultsIgnoreLines =
    (p q : Program)
    → without_lines p ≡ without_lines q
    → map (λ (r : Refusal). r.kind) (faults p) ≡ map (λ (r : Refusal). r.kind) (faults q)

-- so where one keeps the rules, the other does
abbrev pub RulesIgnoreLines : Type 0
RulesIgnoreLines = (p q : Program) → without_lines p ≡ without_lines q → AreRulesKept p → AreRulesKept q

-- the faults stand in the order of lines: where the lines of names and numbers never fall,
-- those of the faults never do
abbrev pub FaultsFollowText : Type 0
FaultsFollowText =
    (p : Program) → IsNonDecreasing (lines_in_program p)
    → IsNonDecreasing (map (λ (r : Refusal). r.line) (faults p))

-- so it is with the faults of a program that bytes give
abbrev pub FaultsOfTextNeverFall : Type 0
FaultsOfTextNeverFall =
    (bytes : List ℕ) (at : ℕ) (ts rest : List Lexeme) (last : Refusal) (p : Program)
    → AreTokens bytes at ts last
    → IsText IsProgram ts p rest
    → IsNonDecreasing (map (λ (r : Refusal). r.line) (faults p))

-- the faults of the small programs
abbrev pub RowsAreDerived : Type 0
RowsAreDerived = map (λ r. faults r.program) rows ≡ map (λ r. r.faults) rows

-- the shipped programs keep the rules
abbrev pub SamplesKeepRules : Type 0
SamplesKeepRules = AreRulesKept line × AreRulesKept erosion × AreRulesKept hexagon
