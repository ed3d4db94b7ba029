-- A document of Interleave is one of Run.
use Rattle.std.proofs.Common.{ℕ, List, Ok}
use Rattle.text_tokens.specs.declared.refusal.Refusal.{Refusal}
use Rattle.text_tokens.specs.declared.refusal.RefusalKind.TheVariants.{Trailing}
use Rattle.text_tokens.specs.Text.{Lexeme}
use Rattle.text_tokens.specs.Scan.{ahead_of, last_of}
use Rattle.text_tokens.specs.Grammar.{Symbol, Lang, Then, then, of_first}
use Rattle.text_tokens.specs.Lawful.{IsWhole}
use Rattle.text_tokens.specs.Inputs.{IsInput}
use Rattle.text_tokens.proofs.Blanks.{point}
use Rattle.text_tokens.proofs.Exactness.{none_stops}
use Rattle.text_tokens.proofs.SequenceLemmas.{whole_in}
use Rattle.text_tokens.proofs.Symbols.{whole_then}
use Rattle.text_tokens.proofs.PromisesLemmas.{tokens_of_text}
use Rattle.shape_files.specs.declared.section_kind.Section.{Section}
use Rattle.shape_files.specs.declared.section_kind.Section.TheVariants.{Program, Shape, Lists, Schedule}
use Rattle.shape_files.specs.declared.section_kind.Form.TheVariants.{Run, Interleave}
use Rattle.shape_files.specs.Frame.{Course, ends, needs, may_schedule, course_of, IsRest, IsHeader}
use Rattle.shape_files.specs.FrameLaws.{IsStraight}
use Rattle.shape_files.specs.Documents.{Contents, nothing_yet, Body, IsDocument, HasContents}
use Rattle.shape_files.proofs.StraightForms.{straight_texts, forms_are_distinct}
use Rattle.shape_files.proofs.SectionLemmas.{are_sections}
use Rattle.shape_files.proofs.DocumentsLemmas.{says_of}

abbrev There : Course → Contents → Lang Contents
There c s = IsStraight Body c s

-- behind a section
behind_section : (k : Section) (c d : Course) → ((r b : Contents) (zs : List Symbol) → There c r zs b → There d r zs b) → (s b : Contents) (zs : List Symbol) → Then (Body k s) (λ r. There c r) zs b → Then (Body k s) (λ r. There d r) zs b
behind_section k c d more s b zs (then {xs = xs} {ys = ys} r p q) = then r p (more r b ys q)

after_lists : (s b : Contents) (zs : List Symbol) → There (needs Schedule ends) s zs b → There (may_schedule ends) s zs b
after_lists s b zs is = of_first is

after_shape : (s b : Contents) (zs : List Symbol) → There (needs Lists (needs Schedule ends)) s zs b → There (needs Lists (may_schedule ends)) s zs b
after_shape s b zs is = behind_section Lists (needs Schedule ends) (may_schedule ends) after_lists s b zs is

after_program : (s b : Contents) (zs : List Symbol) → There (needs Shape (needs Lists (needs Schedule ends))) s zs b → There (needs Shape (needs Lists (may_schedule ends))) s zs b
after_program s b zs is = behind_section Shape (needs Lists (needs Schedule ends)) (needs Lists (may_schedule ends)) after_shape s b zs is

as_run : (s b : Contents) (zs : List Symbol) → There (course_of Interleave) s zs b → There (course_of Run) s zs b
as_run s b zs is = behind_section Program (needs Shape (needs Lists (needs Schedule ends))) (needs Shape (needs Lists (may_schedule ends))) after_program s b zs is

document_as_run : (a : Contents) (us : List Lexeme) → IsWhole (IsDocument Interleave) us a → IsWhole (IsDocument Run) us a
document_as_run a us w =
    let i = whole_in IsHeader (λ version. IsRest Body (course_of Interleave) (nothing_yet version)) us a w in
    let start = nothing_yet i.a in
    let one = (straight_texts Body are_sections.start (course_of Interleave) (forms_are_distinct Interleave) start).into i.ws a i.second in
    let other : IsWhole (There (course_of Run) start) i.ws a = record { text = one.text; is = as_run start a one.text one.is; parts = one.parts; fine = one.fine } in
    whole_then i.vs i.ws us i.a a i.parts i.first ((straight_texts Body are_sections.start (course_of Run) (forms_are_distinct Run) start).back i.ws a other)

pub interleaves_are_runs : (bytes : List ℕ) (a : Contents) → HasContents Interleave bytes a → HasContents Run bytes a
interleaves_are_runs bytes a holds =
    let ts : List Lexeme = ahead_of (point bytes 0) in
    let end : Refusal = last_of (point bytes 0) in
    let input : IsInput (IsDocument Interleave) Trailing end ts a = holds ts end (tokens_of_text bytes) in
    let run : IsInput (IsDocument Run) Trailing end ts a = record {
      text = record { us = input.text.us; parts = input.text.parts; whole = document_as_run a input.text.us input.text.whole; stops = none_stops (IsDocument Run) input.text.us };
      ends = input.ends;
    } in
    says_of Run bytes (Ok a) ts end (tokens_of_text bytes) run
