-- The program of a document can be printed: its names and numbers are such as tokens have, and it keeps the rules.
use Rattle.std.proofs.Common.{ℕ, Bool, true, false, List, [], sym, subst}
use Rattle.std.specs.Option.{IfSome}
use Rattle.text_tokens.specs.declared.refusal.RefusalKind.TheVariants.{Trailing}
use Rattle.text_tokens.specs.Scan.{ahead_of, last_of}
use Rattle.text_tokens.specs.Text.{Lexeme}
use Rattle.text_tokens.specs.Cursor.{AreCut}
use Rattle.text_tokens.specs.Grammar.{Symbol, then, made, is_judgement}
use Rattle.text_tokens.specs.Inputs.{IsInput}
use Rattle.text_tokens.proofs.Blanks.{point}
use Rattle.text_tokens.proofs.PromisesLemmas.{tokens_of_text, ahead_cut}
use Rattle.action_tree.specs.Trees as tree
use Rattle.action_tree.proofs.Fine.{IsFine, fine_parts, fine_text, cut_front}
use Rattle.action_tree.proofs.MeasuredStatements.{program_passes}
use Rattle.action_tree.proofs.ProductionsLemmas.{program_given}
use Rattle.action_check.specs.Faults.{faults}
use Rattle.shape_text.specs.Parts.{has_old_values}
use Rattle.shape_files.specs.declared.section_kind.Section.{Section}
use Rattle.shape_files.specs.declared.section_kind.Section.TheVariants as kind
use Rattle.shape_files.specs.declared.section_kind.Form.{Form}
use Rattle.shape_files.specs.Frame.{Course, course_of, IsRest, section, finished, wrong}
use Rattle.shape_files.specs.Documents.{Contents, nothing_yet, IsCheckedProgram, JournalBody, Body, IsDocument, HasContents}
use Rattle.shape_files.specs.Fitting.{IsWritableProgram}
use Rattle.shape_files.proofs.FittingLemmas.{no_first}

-- a program that keeps the rules, of sound tokens
program_writable : (xs : List Symbol) (p : tree.Program) → IsCheckedProgram xs p → IsFine xs → IsWritableProgram p
program_writable zs q (then {xs = xs} {ys = ys} p is is_judgement) f =
    let parts = fine_parts xs ys f in
    record { writable = program_passes q (program_given xs q is parts.0); checked = no_first (faults q) parts.1.0 }

-- what is so of the program so far
abbrev Kept : Contents → Type 0
Kept s = IfSome s.checked IsWritableProgram

journal_writable : (old : Bool) (s r : Contents) (xs : List Symbol) → JournalBody old s xs r → Kept s → Kept r
journal_writable true s r xs (made es is) so = so
journal_writable false s r xs (made ps is) so = so

section_writable : (k : Section) (s r : Contents) (xs : List Symbol) → Body k s xs r → IsFine xs → Kept s → Kept r
section_writable kind.Program s r xs (made p is) f so = program_writable xs p is f
section_writable kind.Shape s r xs (made c is) f so = so
section_writable kind.Lists s r xs (made l is) f so = so
section_writable kind.Schedule s r xs (made steps is) f so = so
section_writable kind.Journal s r xs is f so = journal_writable (has_old_values s.version) s r xs is so
section_writable kind.Final s r xs (made c is) f so = so
section_writable kind.Turns s r xs (made u is) f so = so

rest_writable : (c : Course) (s : Contents) (xs : List Symbol) (a : Contents) → IsRest Body c s xs a → IsFine xs → Kept s → Kept a
rest_writable c s zs a (section {d = d} {k = k} {r = r} {xs = xs} {ys = ys} t first comes is more) f so =
    let parts = fine_parts xs ys f in
    rest_writable d r ys a more parts.1 (section_writable k s r xs is parts.0 so)
rest_writable c s zs a (finished ends) f so = so
rest_writable c s zs a (wrong t none needed word) f so = so

document_writable : (form : Form) (xs : List Symbol) (a : Contents) → IsDocument form xs a → IsFine xs → Kept a
document_writable form zs a (then {xs = xs} {ys = ys} version header more) f =
    let parts = fine_parts xs ys f in
    rest_writable (course_of form) (nothing_yet version) ys a more parts.1 tt

pub program_written : (form : Form) (bytes : List ℕ) (a : Contents) → HasContents form bytes a → IfSome a.checked IsWritableProgram
program_written form bytes a holds =
    let ts : List Lexeme = ahead_of (point bytes 0) in
    let input : IsInput (IsDocument form) Trailing (last_of (point bytes 0)) ts a = holds ts (last_of (point bytes 0)) (tokens_of_text bytes) in
    let w = input.text.whole in
    let cut : AreCut input.text.us = cut_front input.text.us [] (subst AreCut input.text.parts (ahead_cut (point bytes 0))) in
    document_writable form w.text a w.is (fine_text w.text w.fine (subst AreCut (sym w.parts) cut))
