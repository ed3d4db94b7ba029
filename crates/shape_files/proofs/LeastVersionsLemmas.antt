-- Documents whose version is not below a least one.
use Rattle.std.proofs.Common.{◌≡◌, inl, ℕ, ◌<◌, ◌≤◌, Bool, true, false, List, [], ◌∷◌, Option, None, Err, refl, sym, ap, subst, ◌∙◌, arith}
use Rattle.std.proofs.lemmas.Bool.{leb-true, le-leb}
use Rattle.text_tokens.specs.declared.refusal.Refusal.{Refusal}
use Rattle.text_tokens.specs.declared.refusal.RefusalKind.{RefusalKind}
use Rattle.text_tokens.specs.declared.refusal.RefusalKind.TheVariants.{BadRange, Trailing}
use Rattle.text_tokens.specs.Text.{Lexeme}
use Rattle.text_tokens.specs.Cursor.{on_line}
use Rattle.text_tokens.specs.Reading.{is_number, lexeme_value}
use Rattle.text_tokens.specs.Scan.{ahead_of, last_of}
use Rattle.text_tokens.specs.Grammar.{Symbol, symbol, refusal_of, first_fault, IsOne, is_one, then, made, IsNumeral}
use Rattle.text_tokens.specs.Lawful.{Next, limit}
use Rattle.text_tokens.specs.Inputs.{IsInput, IsInputFault, within}
use Rattle.text_tokens.proofs.Blanks.{point}
use Rattle.text_tokens.proofs.Exactness.{none_stops}
use Rattle.text_tokens.proofs.ListSplits.{fine-parts}
use Rattle.text_tokens.proofs.PromisesLemmas.{tokens_of_text}
use Rattle.shape_text.specs.Parts.{outside, has_old_values}
use Rattle.shape_text.proofs.Outside as range
use Rattle.shape_files.specs.declared.section_kind.Section.{Section}
use Rattle.shape_files.specs.declared.section_kind.Section.TheVariants as kind
use Rattle.shape_files.specs.declared.section_kind.Form.{Form}
use Rattle.shape_files.specs.declared.section_kind.Form.TheVariants.{Replay}
use Rattle.shape_files.specs.Frame.{Course, course_of, IsRest, section, finished, wrong, is_header_word, least_version, greatest_version, IsHeaderFrom}
use Rattle.shape_files.specs.Documents.{Contents, nothing_yet, JournalBody, Body, IsDocumentFrom, HasContentsFrom}
use Rattle.shape_files.specs.DocumentReaders.{body}
use Rattle.shape_files.specs.Fitting.{HasJournalBy}
use Rattle.shape_files.specs.LeastVersions.{EarlierIsBadRange, LaterIsDocument, DocumentIsLater, LaterHasOldValues}
use Rattle.shape_files.proofs.Fine.{none_passed}
use Rattle.shape_files.proofs.FrameLemmas.{some_rest}
use Rattle.shape_files.proofs.SectionLemmas.{are_sections}
use Rattle.shape_files.proofs.DocumentsLemmas.{says_from}
use Rattle.shape_files.proofs.FittingLemmas.{version_within, documents_fit}

-- ---- the version stays

journal_keeps_version : (old : Bool) (s r : Contents) (xs : List Symbol) → JournalBody old s xs r → r.version ≡ s.version
journal_keeps_version true s r xs (made es is) = refl
journal_keeps_version false s r xs (made ps is) = refl

section_keeps_version : (k : Section) (s r : Contents) (xs : List Symbol) → Body k s xs r → r.version ≡ s.version
section_keeps_version kind.Program s r xs (made p is) = refl
section_keeps_version kind.Shape s r xs (made c is) = refl
section_keeps_version kind.Lists s r xs (made l is) = refl
section_keeps_version kind.Schedule s r xs (made steps is) = refl
section_keeps_version kind.Journal s r xs is = journal_keeps_version (has_old_values s.version) s r xs is
section_keeps_version kind.Final s r xs (made c is) = refl
section_keeps_version kind.Turns s r xs (made u is) = refl

rest_keeps_version : (c : Course) (s a : Contents) (xs : List Symbol) → IsRest Body c s xs a → a.version ≡ s.version
rest_keeps_version c s a zs (section {d = d} {k = k} {r = r} {xs = xs} {ys = ys} t first comes is more) = rest_keeps_version d r a ys more ∙ section_keeps_version k s r xs is
rest_keeps_version c s a zs (finished ends) = refl
rest_keeps_version c s a zs (wrong t none needed word) = refl

-- ---- another least version

-- a number that passes one limit passes another
one_again : (over other : Lexeme → Option RefusalKind) (xs : List Symbol) (t : Lexeme) → IsOne is_number over xs t → first_fault xs ≡ None → (over t ≡ None → other t ≡ None) → IsOne is_number other xs t
one_again over other xs t (is_one u number) e passes =
    let none : over u ≡ None = none_passed u (over u) e in
    subst (λ (o : Option RefusalKind). IsOne is_number other (symbol u o ∷ []) u) (passes none ∙ sym none) (is_one u number)

numeral_again : (over other : Lexeme → Option RefusalKind) (xs : List Symbol) (n : ℕ) → IsNumeral over xs n → first_fault xs ≡ None → ((t : Lexeme) → lexeme_value t ≡ n → over t ≡ None → other t ≡ None) → IsNumeral other xs n
numeral_again over other xs n (made t is) e passes = made t (one_again over other xs t is e (passes t refl))

header_again : (least other : ℕ) (xs : List Symbol) (v : ℕ) → IsHeaderFrom least xs v → first_fault xs ≡ None → other ≤ v → IsHeaderFrom other xs v
header_again least other zs v (then {xs = xs} {ys = ys} line p q) e le =
    then line p (numeral_again (outside least greatest_version) (outside other greatest_version) ys v q (fine-parts xs ys e).1
    (λ t same none. range.inside other greatest_version t (subst (λ (n : ℕ). other ≤ n) (sym same) le) (range.within least greatest_version t none).1))

document_again : (least other : ℕ) (form : Form) (xs : List Symbol) (a : Contents) → IsDocumentFrom least form xs a → first_fault xs ≡ None → other ≤ a.version → IsDocumentFrom other form xs a
document_again least other form zs a (then {xs = xs} {ys = ys} v p q) e le =
    let same = rest_keeps_version (course_of form) (nothing_yet v) a ys q in
    then v (header_again least other xs v p (fine-parts xs ys e).0 (subst (λ (n : ℕ). other ≤ n) same le)) q

contents_again : (least other : ℕ) (form : Form) (bytes : List ℕ) (a : Contents) → other ≤ a.version → HasContentsFrom least form bytes a → HasContentsFrom other form bytes a
contents_again least other form bytes a le holds ts last are =
    let input : IsInput (IsDocumentFrom least form) Trailing last ts a = holds ts last are in
    let w = input.text.whole in
    record {
      text = record {
        us = input.text.us;
        parts = input.text.parts;
        whole = record { text = w.text; is = document_again least other form w.text a w.is w.fine le; parts = w.parts; fine = w.fine };
        stops = none_stops (IsDocumentFrom other form) input.text.us;
      };
      ends = input.ends;
    }

-- ---- the version of a document is not below the least one

document_version : (least : ℕ) (form : Form) (xs : List Symbol) (a : Contents) → IsDocumentFrom least form xs a → first_fault xs ≡ None → least ≤ a.version
document_version least form zs a (then {xs = xs} {ys = ys} v p q) e =
    let read = version_within least v (record { text = xs; is = p; fine = (fine-parts xs ys e).0 }) in
    subst (λ (n : ℕ). least ≤ n) (sym (rest_keeps_version (course_of form) (nothing_yet v) a ys q)) read.0

contents_version : (least : ℕ) (form : Form) (bytes : List ℕ) (a : Contents) → HasContentsFrom least form bytes a → least ≤ a.version
contents_version least form bytes a holds =
    let input : IsInput (IsDocumentFrom least form) Trailing (last_of (point bytes 0)) (ahead_of (point bytes 0)) a = holds (ahead_of (point bytes 0)) (last_of (point bytes 0)) (tokens_of_text bytes) in
    let w = input.text.whole in
    document_version least form w.text a w.is w.fine

pub later_is_document : LaterIsDocument
later_is_document least form bytes a low holds =
    let le = contents_version least form bytes a holds in
    (contents_again least least_version form bytes a (omega (arith, low, le)) holds, le)

pub document_is_later : DocumentIsLater
document_is_later least form bytes a le holds = contents_again least_version least form bytes a le holds

-- ---- what a later version has

pub later_has_old_values : LaterHasOldValues
later_has_old_values least bytes a old holds =
    let from : 3 ≤ least = leb-true 3 least old in
    let document = later_is_document least Replay bytes a (omega (arith, from)) holds in
    let le : least ≤ a.version = document.1 in
    let values : has_old_values a.version ≡ true = le-leb 3 a.version (omega (arith, from, le)) in
    subst (λ (b : Bool). HasJournalBy b a) values (documents_fit Replay bytes a document.0).sections.2

-- ---- an earlier version

module _ (least : ℕ) (form : Form) (word version : Lexeme) (is_word : is_header_word word ≡ true) (number : is_number version ≡ true) (lt : lexeme_value version < least) where
  abbrev refusal : Refusal
  refusal = on_line version.line BadRange

  -- the number goes on a header, beyond its limit
  number_next : Next (IsDocumentFrom least form) (word ∷ []) (symbol version (outside least greatest_version version))
  number_next =
      let more = some_rest Body body are_sections (course_of form) (nothing_yet (lexeme_value version)) in
      record {
        text = symbol word None ∷ [];
        more = more.text;
        whole = more.whole;
        is = then (lexeme_value version) (then word.line (made word (is_one word is_word)) (made version (is_one version number))) more.is;
        parts = refl;
        fine = refl;
      }

  fault_at_number : (rest : List Lexeme) (last : Refusal) → IsInputFault (IsDocumentFrom least form) Trailing last (word ∷ version ∷ rest) refusal
  fault_at_number rest last =
      within (limit (word ∷ []) (symbol version (outside least greatest_version version)) version rest refl number_next refl
      (ap (λ (o : Option RefusalKind). refusal_of version o) (range.outlying least greatest_version version (inl lt))))

pub earlier_is_bad_range : EarlierIsBadRange
earlier_is_bad_range least form bytes word version rest last are is_word number lt =
    says_from least form bytes (Err (on_line version.line BadRange)) (word ∷ version ∷ rest) last are (fault_at_number least form word version is_word number lt rest last)
