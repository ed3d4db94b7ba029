-- The sections of a document are parts, and each begins with its word.
use Rattle.std.proofs.Common.{◌≡◌, ℕ, Bool, true, false, cond, ◌&&◌, List, drop, Option, Some, refl, sym, ap, ◌∙◌}
use Rattle.std.specs.Prelude.{codes}
use Rattle.std.specs.Str.{bytes_eq}
use Rattle.std.proofs.lemmas.Slice.Eq.{bytes_eq-Decides}
use Rattle.text_tokens.specs.declared.token.TokenKind.{TokenKind}
use Rattle.text_tokens.specs.declared.token.TokenKind.TheVariants.{Word, Number, Sign}
use Rattle.text_tokens.specs.declared.refusal.Refusal.{Refusal}
use Rattle.text_tokens.specs.Text.{Lexeme}
use Rattle.text_tokens.specs.Cursor.{same_kind}
use Rattle.text_tokens.specs.Reading.{Reader, no_limit}
use Rattle.text_tokens.specs.Grammar.{Symbol, Lang, Then, then}
use Rattle.text_tokens.specs.Lawful.{SomeText, always, IsPart, Starts}
use Rattle.text_tokens.proofs.CarriedTexts.{part_made}
use Rattle.text_tokens.proofs.StartsLemmas.{starts_made, starts_judged, starts_one, starts_then}
use Rattle.text_tokens.proofs.LexemeLemmas.{starts_the}
use Rattle.text_tokens.proofs.Parts.{some_text, part_judged}
use Rattle.action_tree.specs.Trees as tree
use Rattle.action_tree.specs.declared.role.Role.{Role}
use Rattle.action_tree.specs.declared.role.Role.TheVariants.{AName, ProgramWord, Foreign}
use Rattle.action_tree.specs.Roles.{Entry, look_up, words, signs, role, role_by, same_role, is_a}
use Rattle.action_tree.specs.Expressions.{IsA}
use Rattle.action_tree.specs.Programs.{IsProgram}
use Rattle.action_tree.specs.ProgramReaders.{a_program}
use Rattle.action_tree.proofs.ProgramLaws.{part_program}
use Rattle.action_tree.proofs.NameLemmas.{lacking}
use Rattle.action_check.specs.Faults.{faults}
use Rattle.shape_text.specs.Parts.{IsWord, has_old_values}
use Rattle.journal_text.specs.Journals.{entry_by, plain_by}
use Rattle.journal_text.proofs.JournalLaws.{part_journal_of}
use Rattle.journal_text.proofs.TurnLaws.{part_the_turns}
use Rattle.shape_text.proofs.ShapeLaws.{part_shape, part_final, starts_shape, starts_final}
use Rattle.schedule_text.proofs.ListLaws.{part_lists, starts_lists}
use Rattle.schedule_text.proofs.ScheduleLaws.{part_schedule, starts_schedule}
use Rattle.shape_files.specs.declared.section_kind.Section.{Section}
use Rattle.shape_files.specs.declared.section_kind.Section.TheVariants.{Program, Shape, Lists, Schedule, Journal, Final, Turns}
use Rattle.shape_files.specs.Frame.{is_word_of_section}
use Rattle.shape_files.specs.FrameLaws.{AreSections}
use Rattle.shape_files.specs.Documents.{Contents, var_count, actions_of, maxes_in, bots_of, callers_of, first_in, IsCheckedProgram, JournalBody, Body}
use Rattle.shape_files.specs.DocumentReaders.{a_checked_program, journal_body, body}

-- ---- the word of a program

-- what stands in the table behind the words of a document and of a program
abbrev further : List (Entry Role)
further = drop 2 words

abbrev head : List ℕ
head = codes "amoebot"

word_by : (text : List ℕ) (a b : Bool) → bytes_eq text head ≡ a → bytes_eq text (codes "program") ≡ b → same_role (cond a Foreign (cond b ProgramWord (look_up AName further text))) ProgramWord ≡ b
unfolding same_role
word_by text true true e f =
    let same : text ≡ head = (bytes_eq-Decides text head).0 e in
    let other : true ≡ false = sym f ∙ ap (λ (t : List ℕ). bytes_eq t (codes "program")) same in absurd cc
word_by text true false e f = refl
word_by text false true e f = refl
word_by text false false e f = lacking ProgramWord AName further text refl refl

program_by : (kind : TokenKind) (text : List ℕ) → same_role (role_by kind text) ProgramWord ≡ (same_kind kind Word && bytes_eq text (codes "program"))
unfolding same_role same_kind
program_by Word text = word_by text (bytes_eq text head) (bytes_eq text (codes "program")) refl refl
program_by Number text = refl
program_by Sign text = lacking ProgramWord Foreign signs text refl refl

-- a token of this role is the word of the section, and the reverse
program_word : (t : Lexeme) → is_a ProgramWord t ≡ is_word_of_section Program t
unfolding role
program_word t = program_by t.kind t.text

starts_so : {A : Type 0} {P : Lang A} (test other : Lexeme → Bool) → ((t : Lexeme) → test t ≡ other t) → Starts P test no_limit → Starts P other no_limit
starts_so {P = P} test other same s = record {
  begins = λ xs a p. (let b = s.begins xs a p in record { t = b.t; more = b.more; parts = b.parts; passes = sym (same b.t) ∙ b.passes });
  each = λ t e. s.each t (same t ∙ e);
}

-- ---- what a section begins with

behind_first : {A B : Type 0} {P : Lang A} {Q : Lang B} → SomeText (Then P (λ a. Q)) → SomeText Q
behind_first {A} {B} {P} {Q} s = by s.text s.whole s.is
  where
    by : (zs : List Symbol) (b : B) → Then P (λ a. Q) zs b → SomeText Q
    by zs b (then {ys = ys} a p q) = record { text = ys; whole = b; is = q }

-- a part behind a word that it does not depend on
starts_behind : {A B : Type 0} (P : Lang A) (Q : Lang B) (q : Reader B) (test : Lexeme → Bool) → Starts P test no_limit → IsPart (Then P (λ a. Q)) q always → Starts (Then P (λ a. Q)) test no_limit
starts_behind P Q q test s part = starts_then P (λ a. Q) test no_limit s (λ a. behind_first (some_text (Then P (λ a. Q)) q part.law))

starts_program : Starts IsProgram (is_word_of_section Program) no_limit
starts_program = starts_so (is_a ProgramWord) (is_word_of_section Program) program_word (starts_behind (IsA ProgramWord) _ a_program (is_a ProgramWord) (starts_one (is_a ProgramWord) no_limit) part_program)

-- ---- the sections

-- what is wrong with a program, if anything
abbrev pub wrong : tree.Program → Option Refusal
wrong p = first_in (faults p)

part_checked : IsPart IsCheckedProgram a_checked_program always
unfolding a_checked_program
part_checked = part_judged IsProgram a_program wrong always part_program

starts_checked : Starts IsCheckedProgram (is_word_of_section Program) no_limit
starts_checked = starts_judged IsProgram wrong (is_word_of_section Program) no_limit starts_program

part_of_journal : (old : Bool) (s : Contents) → IsPart (JournalBody old s) (journal_body old s) always
unfolding journal_body
part_of_journal true s = part_made _ (λ es. record s { entries = Some es }) _ always (part_journal_of true entry_by (bots_of s.world) (actions_of s.checked) (var_count s.checked))
part_of_journal false s = part_made _ (λ ps. record s { plain = Some ps }) _ always (part_journal_of false plain_by (bots_of s.world) (actions_of s.checked) (var_count s.checked))

part_of : (k : Section) (s : Contents) → IsPart (Body k s) (body k s) always
unfolding body
part_of Program s = part_made IsCheckedProgram (λ p. record s { checked = Some p }) a_checked_program always part_checked
part_of Shape s = part_made _ (λ c. record s { world = Some c }) _ always (part_shape s.version (var_count s.checked) (maxes_in s.checked))
part_of Lists s = part_made _ (λ l. record s { lists = Some l }) _ always (part_lists (bots_of s.world))
part_of Schedule s = part_made _ (λ steps. record s { schedule = Some steps }) _ always (part_schedule (callers_of s.lists))
part_of Journal s = part_of_journal (has_old_values s.version) s
part_of Final s = part_made _ (λ c. record s { final_world = Some c }) _ always (part_final s.version (var_count s.checked) (maxes_in s.checked))
part_of Turns s = part_made _ (λ u. s) _ always (part_the_turns s.version)

start_of_journal : (old : Bool) (s : Contents) → Starts (JournalBody old s) (is_word_of_section Journal) no_limit
start_of_journal true s =
    starts_made _ (λ es. record s { entries = Some es }) (is_word_of_section Journal) no_limit
    (starts_behind (IsWord (codes "journal")) _ _ (is_word_of_section Journal) (starts_the (is_word_of_section Journal)) (part_journal_of true entry_by (bots_of s.world) (actions_of s.checked) (var_count s.checked)))
start_of_journal false s =
    starts_made _ (λ ps. record s { plain = Some ps }) (is_word_of_section Journal) no_limit
    (starts_behind (IsWord (codes "journal")) _ _ (is_word_of_section Journal) (starts_the (is_word_of_section Journal)) (part_journal_of false plain_by (bots_of s.world) (actions_of s.checked) (var_count s.checked)))

start_of : (k : Section) (s : Contents) → Starts (Body k s) (is_word_of_section k) no_limit
start_of Program s = starts_made IsCheckedProgram (λ p. record s { checked = Some p }) (is_word_of_section Program) no_limit starts_checked
start_of Shape s = starts_made _ (λ c. record s { world = Some c }) (is_word_of_section Shape) no_limit (starts_shape s.version (var_count s.checked) (maxes_in s.checked))
start_of Lists s = starts_made _ (λ l. record s { lists = Some l }) (is_word_of_section Lists) no_limit (starts_lists (bots_of s.world))
start_of Schedule s = starts_made _ (λ steps. record s { schedule = Some steps }) (is_word_of_section Schedule) no_limit (starts_schedule (callers_of s.lists))
start_of Journal s = start_of_journal (has_old_values s.version) s
start_of Final s = starts_made _ (λ c. record s { final_world = Some c }) (is_word_of_section Final) no_limit (starts_final s.version (var_count s.checked) (maxes_in s.checked))
start_of Turns s = starts_made _ (λ u. s) (is_word_of_section Turns) no_limit (starts_behind (IsWord (codes "turns")) _ _ (is_word_of_section Turns) (starts_the (is_word_of_section Turns)) (part_the_turns s.version))

pub are_sections : AreSections Body body
are_sections = record { part = part_of; start = start_of }
