-- What holds of the frame, whatever its sections are.
use Rattle.std.specs.Prelude.{◌≡◌, ℕ, true, List, None}
use Rattle.text_tokens.specs.declared.refusal.RefusalKind.TheVariants.{Trailing}
use Rattle.text_tokens.specs.Text.{Lexeme}
use Rattle.text_tokens.specs.Reading.{Reader, no_limit, whole_input}
use Rattle.text_tokens.specs.Grammar.{Lang, Then, IsNothing, Either}
use Rattle.text_tokens.specs.Lawful.{IsWhole, Exact, IsDecided, always, IsPart, Starts}
use Rattle.text_tokens.specs.Inputs.{IsDecidedInput, ExactInput}
use Rattle.shape_files.specs.declared.section_kind.Section.{Section}
use Rattle.shape_files.specs.declared.section_kind.Form.{Form}
use Rattle.shape_files.specs.Frame.{Course, ends, needs, may, course_of, is_word_of_section, comes, IsRest, IsHeader, IsInFrame}
use Rattle.shape_files.specs.FrameReaders.{header, in_frame}

-- Of any tokens the header says one thing, and its reader answers it.
pub record HeaderIsDecided : Type 0 where
  pub exact : Exact IsHeader header
  pub decided : IsDecided IsHeader

-- What the frame asks of the sections: in every state each is a part behind which nothing
-- of it comes, and begins with its word.
pub record AreSections {S : Type 0} (Body : Section → S → Lang S)
    (body : Section → S → Reader S) : Type 0 where
  pub part : (k : Section) (s : S) → IsPart (Body k s) (body k s) always
  pub start : (k : Section) (s : S) → Starts (Body k s) (is_word_of_section k) no_limit

-- Of any tokens, and of any whole input, the grammar says one thing, and the reader answers it.
pub record Framed {S : Type 0} (P : Lang S) (p : Reader S) : Type 0 where
  pub exact : Exact P p
  pub decided : IsDecided P
  pub exact_input : ExactInput P Trailing (whole_input Trailing p)
  pub decided_input : IsDecidedInput P Trailing

abbrev pub FrameLaw : {S : Type 0} → (Section → S → Lang S) → (Section → S → Reader S) → Type 0
FrameLaw {S} Body body = AreSections Body body → (c : Course) (start : ℕ → S)
    → Framed (IsInFrame Body c start) (in_frame body c start)

-- ---- the forms as they are written down

module _ {S : Type 0} (Body : Section → S → Lang S) where
  -- sections one behind the other, some of them optional
  abbrev pub IsStraight : Course → S → Lang S
  IsStraight ends s = IsNothing s
  IsStraight (needs k c) s = Then (Body k s) (λ r. IsStraight c r)
  IsStraight (may k c d) s = Either (Then (Body k s) (λ r. IsStraight c r)) (IsStraight d s)

  -- the frame's texts without a refusal are those, and they stand for the same
  pub record SameTexts (c : Course) (s : S) : Type 0 where
    pub into : (us : List Lexeme) (a : S) → IsWhole (IsRest Body c s) us a → IsWhole (IsStraight c s) us a
    pub back : (us : List Lexeme) (a : S) → IsWhole (IsStraight c s) us a → IsWhole (IsRest Body c s) us a

-- an optional section begins with a word that nothing in its place begins with
abbrev pub Distinct : Course → Type 0
Distinct ends = Unit {0}
Distinct (needs k c) = Distinct c
Distinct (may k c d) =
    ((t : Lexeme) → is_word_of_section k t ≡ true → comes d t ≡ None) × Distinct c × Distinct d

abbrev pub BeginWithTheirWords : {S : Type 0} → (Section → S → Lang S) → Type 0
BeginWithTheirWords {S} Body = (k : Section) (s : S) → Starts (Body k s) (is_word_of_section k) no_limit

abbrev pub StraightLaw : {S : Type 0} → (Section → S → Lang S) → Type 0
StraightLaw {S} Body = BeginWithTheirWords Body → (c : Course) → Distinct c → (s : S) → SameTexts Body c s

abbrev pub FormsAreDistinct : Type 0
FormsAreDistinct = (f : Form) → Distinct (course_of f)
