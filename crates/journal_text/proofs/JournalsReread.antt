-- The text of a journal, with old values or without them, is read as its entries.
use Rattle.std.proofs.Common.{◌≡◌, ℕ, zero, suc, ◌+◌, ◌<◌, ◌≤◌, Bool, true, false, List, [], ◌∷◌, ◌++◌, length, map, Option, Some, None, codes, refl, sym, ap, subst, ◌∙◌, arith}
use Rattle.std.specs.Prelude.{◌&&◌, ◌^◌, ◌==◌, decimal, nat_lt, nat_le, is_some, IfSome}
use Rattle.std.specs.List.{All, list_all, flat_map, enumerate_from}
use Rattle.std.proofs.lemmas.List.Folds.{list_all-append}
use Rattle.std.proofs.lemmas.List.{length-map, map-id}
use Rattle.std.proofs.lemmas.Simd.{map-map}
use Rattle.std.proofs.lemmas.List.Elements.{All-nil, All-cons, All-head, All-tail, All-map}
use Rattle.std.proofs.lemmas.Bool.{ltb-true, leb-true, and_parts}
use Rattle.std.proofs.lemmas.Bool.Decides.{nat_tests}
use Rattle.tri_lattice.specs.declared.node.Node.{Node}
use Rattle.text_tokens.specs.declared.token.TokenKind.TheVariants.{Word}
use Rattle.text_tokens.specs.Text.{Lexeme}
use Rattle.text_tokens.specs.Lines.{Words}
use Rattle.text_tokens.specs.Reading.{less}
use Rattle.text_tokens.specs.Grammar.{Symbol, Lang, Then, then, Made, made, is_nothing, IsThe, Limited, in_limit, Repeated, no_more, AtMost}
use Rattle.text_tokens.proofs.PrintedTokens.{kind_of, IsOneToken, word_is_token}
use Rattle.amoebot_state.specs.declared.bot.Port.{Port}
use Rattle.amoebot_state.specs.declared.cell.CellName.{CellName}
use Rattle.amoebot_state.specs.declared.cell.CellName.TheVariants as name
use Rattle.amoebot_state.specs.declared.cell.Cell.{Cell}
use Rattle.amoebot_state.specs.declared.cell.Cell.TheVariants as cell
use Rattle.amoebot_state.specs.declared.verdict.Entry.{Entry}
use Rattle.amoebot_state.specs.declared.verdict.PlainEntry.{PlainEntry}
use Rattle.amoebot_state.specs.declared.verdict.Moved.{Moved}
use Rattle.amoebot_state.specs.declared.verdict.Moved.TheVariants as moved
use Rattle.amoebot_state.specs.Pairs.{Pairs, Triples, plain_triple}
use Rattle.amoebot_state.specs.Ports.{end_word}
use Rattle.claim_core.specs.Limits.{most_turns}
use Rattle.shape_text.specs.Parts.{word, is_end, one_more, IsWord}
use Rattle.journal_text.specs.Journals.{IsPortBehind, IsMoved, IsCellText, IsValueOf, IsOldValue, WrittenChange, written_change, IsPair, Numbers, numbers_of, AreNumbers, WrittenEntry, Written, written_entry, IsEntryWord, IsWrittenEntry, ids_of_name, ids_of_value, ids_of_old, ids_of_change, named_ids, is_known, entry_fault, IsEntryBy, AreEntriesBy, IsJournalOf, full_change, entry_by, IsJournal, plain_by, IsPlainJournal}
use Rattle.shape_text.specs.PartTexts.{node_words, port_words, bot_words}
use Rattle.journal_text.specs.Texts.{cell_words, value_words, old_words, change_words, moved_words, entry_numbers, entry_words, written_lines, change_in_full, written_full, change_of_pair, written_plain}
use Rattle.shape_text.specs.PartLimits.{HasCoordinates}
use Rattle.journal_text.specs.Rereading.{IsWritablePair, IsWritableChange, IsPossible, KeepsLimits, JournalsReadBack, PlainJournalsReadBack}
use Rattle.text_tokens.proofs.LinesLemmas.{Found, Is, Any, Rereads, RereadsLines, rereads_behind, rereads_then, rereads_next, rereads_made, rereads_as, rereads_first, rereads_second, rereads_judged, rereads_nothing, rereads_into, rereads_more, lines_more, lines_then, lines_next, lines_nothing, the_passes, one_found, one_rereads, reread_line}
use Rattle.text_tokens.proofs.StepsLemmas.{not_past}
use Rattle.text_tokens.proofs.SaysLemmas.{lines_say}
use Rattle.journal_text.proofs.JournalLaws.{BehindWord}
use Rattle.shape_text.proofs.PartsReread.{any_number, the_word, means, an_end, a_port, a_node, a_bot}

-- ---- movements

port_behind : (w : List ℕ) → Rereads (IsWord w) Any (w ∷ []) → (p : Port) → p.dir ≤ 5 → Rereads (IsPortBehind w) (Is p) (w ∷ port_words p)
port_behind w first p le = rereads_next (w ∷ []) (port_words p) first (a_port p le)

a_movement : (m : Moved) → IsPossible m → Rereads IsMoved (Is m) (moved_words m)
a_movement moved.None le = rereads_first (codes "none" ∷ []) (means (word (codes "none")) moved.None (codes "none" ∷ []) (the_word _ _ refl refl (omega arith) refl))
a_movement (moved.Expand p) le = rereads_second (codes "expand" ∷ port_words p) (rereads_first (codes "expand" ∷ port_words p) (rereads_as moved.Expand (codes "expand" ∷ port_words p) p (port_behind (codes "expand") (the_word _ _ refl refl (omega arith) refl) p le)))
a_movement (moved.Contract e) le =
    let words = codes "contract" ∷ end_word e ∷ [] in
    rereads_second words (rereads_second words (rereads_first words (rereads_as moved.Contract words e (rereads_next (codes "contract" ∷ []) (end_word e ∷ []) (the_word _ _ refl refl (omega arith) refl) (an_end e)))))
a_movement (moved.Push p) le =
    let words = codes "push" ∷ port_words p in
    rereads_second words (rereads_second words (rereads_second words (rereads_first words (rereads_as moved.Push words p (port_behind (codes "push") (the_word _ _ refl refl (omega arith) refl) p le)))))
a_movement (moved.Pull p) le =
    let words = codes "pull" ∷ port_words p in
    rereads_second words (rereads_second words (rereads_second words (rereads_second words (rereads_as moved.Pull words p (port_behind (codes "pull") (the_word _ _ refl refl (omega arith) refl) p le)))))

-- the last word of a section
pub the_last_word : Rereads (IsThe is_end) Any (codes "end" ∷ [])
the_last_word = the_word _ _ refl refl (omega arith) refl

-- ---- pairs

pub a_spot : (v : Node) → HasCoordinates v → Rereads IsCellText (Is (name.Spot v)) (codes "spot" ∷ node_words v)
a_spot v c = rereads_first (codes "spot" ∷ node_words v) (rereads_next (codes "spot" ∷ []) (node_words v) (the_word _ _ refl refl (omega arith) refl) (rereads_as (λ v. name.Spot v) (node_words v) v (a_node v c)))

pub a_body : (id : ℕ) → id < 10 ^ 9 → Rereads IsCellText (Is (name.Body id)) (codes "body" ∷ decimal id ∷ [])
a_body id small = rereads_second (codes "body" ∷ decimal id ∷ []) (rereads_next (codes "body" ∷ []) (decimal id ∷ []) (the_word _ _ refl refl (omega arith) refl) (rereads_as (λ id. name.Body id) (decimal id ∷ []) id (any_number id small)))

module _ (bots vars : ℕ) (few : bots < 2 ^ 16) (le : vars ≤ 8) where
  abbrev there : ℕ → Bool
  there id = nat_lt id bots

  small : (id : ℕ) → there id ≡ true → id < 10 ^ 9
  small id e = let lt = ltb-true id bots e in omega arith

  -- the cell with a value that it may have
  the_cell : (c : CellName) (x : Cell) → IsWritablePair vars (c, x) → list_all there (ids_of_name c) ≡ true → Rereads IsCellText (Is c) (cell_words c)
  the_cell (name.Spot v) (cell.Spot o) w e = a_spot v w
  the_cell (name.Spot v) (cell.Body b) w e = absurd w
  the_cell (name.Body id) (cell.Spot o) w e = absurd w
  the_cell (name.Body id) (cell.Body b) w e = a_body id (small id (and_parts (there id) true e).0)

  the_value : (c : CellName) (x : Cell) → IsWritablePair vars (c, x) → list_all there (ids_of_value x) ≡ true → Rereads (IsValueOf vars c) (Is x) (value_words vars x)
  the_value (name.Spot v) (cell.Spot None) w e = rereads_first (codes "empty" ∷ []) (means (word (codes "empty")) (cell.Spot None) (codes "empty" ∷ []) (the_word _ _ refl refl (omega arith) refl))
  the_value (name.Spot v) (cell.Spot (Some id)) w e = rereads_second (decimal id ∷ []) (rereads_as (λ id. cell.Spot (Some id)) (decimal id ∷ []) id (any_number id (small id (and_parts (there id) true e).0)))
  the_value (name.Spot v) (cell.Body b) w e = absurd w
  the_value (name.Body id) (cell.Spot o) w e = absurd w
  the_value (name.Body id) (cell.Body b) w e = rereads_as (λ b. cell.Body b) (bot_words vars b) b (a_bot vars le b w)

  -- a text has the value before exactly where it is one with old values
  old_value : (old : Bool) (c : CellName) (o : Option Cell) → is_some o ≡ old → IfSome o (λ x. IsWritablePair vars (c, x)) → list_all there (ids_of_old o) ≡ true → Rereads (IsOldValue old (IsValueOf vars c)) (Is o) (old_words vars o)
  old_value false c None is w e = rereads_nothing None is_nothing
  old_value true c None is w e = absurd cc
  old_value false c (Some x) is w e = absurd cc
  old_value true c (Some x) is w e = rereads_then (value_words vars x) (codes "to" ∷ []) x (the_value c x w e) (rereads_made (λ line. Some x) (codes "to" ∷ []) (λ line y. refl) (the_word _ _ refl refl (omega arith) refl))

  module _ (old : Bool) where
    abbrev IsMarked : WrittenChange → Type 0
    IsMarked t = is_some t.1 ≡ old

    a_pair : (t : WrittenChange) → IsMarked t → IsWritableChange vars t → list_all there (ids_of_change t) ≡ true → Rereads (IsPair old vars) (Is t) (change_words vars t)
    a_pair t is w e =
        let c = t.0 in let o = t.1 in let x = t.2 in
        let first = and_parts (list_all there (ids_of_name c)) (list_all there (ids_of_old o ++ ids_of_value x)) (sym (list_all-append there (ids_of_name c) (ids_of_old o ++ ids_of_value x)) ∙ e) in
        let second = and_parts (list_all there (ids_of_old o)) (list_all there (ids_of_value x)) (sym (list_all-append there (ids_of_old o) (ids_of_value x)) ∙ first.1) in
        rereads_then (cell_words c) (old_words vars o ++ value_words vars x) c (the_cell c x w.1 first.0)
        (rereads_then (old_words vars o) (value_words vars x) o (old_value old c o is w.0 second.0)
        (rereads_as (λ x. written_change c o x) (value_words vars x) x (the_value c x w.1 second.1)))

    in_room : (room : ℕ) (t : WrittenChange) → Rereads (IsPair old vars) (Is t) (change_words vars t) → Rereads (Limited (IsPair old vars) (suc room)) (Is t) (change_words vars t)
    in_room room t r = rereads_into (change_words vars t) (λ xs a is. in_limit is) r

    many_pairs : (room : ℕ) (ts : List WrittenChange) → length ts ≤ room → All IsMarked ts → All (IsWritableChange vars) ts → list_all there (flat_map ids_of_change ts) ≡ true → Rereads (Repeated (λ room. Limited (IsPair old vars) room) (λ room a. less room) room) (Is ts) (flat_map (change_words vars) ts)
    many_pairs room [] fit marked all e = rereads_nothing [] no_more
    many_pairs zero (t ∷ ts) fit marked all e = absurd (omega arith)
    many_pairs (suc room) (t ∷ ts) fit marked all e =
        let both = and_parts (list_all there (ids_of_change t)) (list_all there (flat_map ids_of_change ts)) (sym (list_all-append there (ids_of_change t) (flat_map ids_of_change ts)) ∙ e) in
        rereads_more (λ room. Limited (IsPair old vars) room) (λ room a. less room) (suc room) (change_words vars t) (flat_map (change_words vars) ts) t ts
        (in_room room t (a_pair t (All-head IsMarked t ts marked) (All-head (IsWritableChange vars) t ts all) both.0)) (many_pairs room ts (omega arith) (All-tail IsMarked t ts marked) (All-tail (IsWritableChange vars) t ts all) both.1)

-- ---- entries

-- what the rest of an entry stands for, without the line of its word
abbrev Rest : Type 0
Rest = Numbers × Moved × List WrittenChange

abbrev a_rest : Numbers → Moved → List WrittenChange → Rest
a_rest n m ps = (n, m, ps)

abbrev written_with : ℕ → Rest → Written
written_with line r = written_entry line r.0 r.1 r.2

map_made : {A B C : Type 0} {P : Lang A} (f : A → B) (h : B → C) (xs : List Symbol) (b : B) → Made P f xs b → Made P (λ a. h (f a)) xs (h b)
map_made f h xs b (made a is) = made a is

map_then : {A B C : Type 0} {P : Lang A} {Q : A → Lang B} {U : A → Lang C} (h : B → C) → ((a : A) (ys : List Symbol) (b : B) → Q a ys b → U a ys (h b)) → (xs : List Symbol) (b : B) → Then P Q xs b → Then P U xs (h b)
map_then h f zs b (then {xs = xs} {ys = ys} a is m) = then a is (f a ys b m)

module _ (old : Bool) (vars : ℕ) where
  abbrev IsRest : Lang Rest
  IsRest = Then AreNumbers (λ n. Then IsMoved (λ m. Made (AtMost 10 (IsPair old vars)) (λ ps. a_rest n m ps)))

  with_line : (line : ℕ) (xs : List Symbol) (r : Rest) → IsRest xs r → BehindWord old vars line xs (written_with line r)
  with_line line xs r is = map_then (written_with line) (λ n ys s is. map_then (written_with line) (λ m zs q is. map_made (λ ps. a_rest n m ps) (written_with line) zs q is) ys s is) xs r is

  found_with : (line : ℕ) (r : Rest) (ts : List Lexeme) → Found IsRest (Is r) ts → Found (BehindWord old vars line) (λ w. (w.place ≡ (written_with line r).place) × (w.entry ≡ (written_with line r).entry)) ts
  found_with line r ts f = record {
    value = written_with line f.value;
    whole = record { text = f.whole.text; is = with_line line f.whole.text f.value f.whole.is; parts = f.whole.parts; fine = f.whole.fine };
    holds = (ap (λ (s : Rest). (written_with line s).place) f.holds, ap (λ (s : Rest). (written_with line s).entry) f.holds);
  }

-- the lines of the section
abbrev pub the_section : ℕ → List WrittenEntry → List Words
the_section vars ws = (codes "journal" ∷ []) ∷ written_lines vars ws ++ (codes "end" ∷ []) ∷ []

same_number : (n : ℕ) → (n == n) ≡ true
same_number n = grind (arith, nat_tests)

module _ (bots actions vars : ℕ) (few_bots : bots < 2 ^ 16) (few_actions : actions < 2 ^ 8) (le : vars ≤ 8) where
  -- what is known of an entry
  record Ranges (w : WrittenEntry) : Type 0 where
    pub caller : w.caller ≤ 15
    pub turn : w.turn ≤ 65535
    pub action : w.action < actions
    pub bot : w.bot < bots
    pub ids : list_all (λ id. nat_lt id bots) (flat_map ids_of_change w.changes) ≡ true

  ranges : (w : WrittenEntry) → is_known bots actions w ≡ true → Ranges w
  ranges w known =
      let all = list_all (λ id. nat_lt id bots) (named_ids w) in
      let a = and_parts (nat_le w.caller 15 && nat_le w.turn 65535 && nat_lt w.action actions) all known in
      let b = and_parts (nat_le w.caller 15 && nat_le w.turn 65535) (nat_lt w.action actions) a.0 in
      let c = and_parts (nat_le w.caller 15) (nat_le w.turn 65535) b.0 in
      let d = and_parts (nat_lt w.bot bots) (list_all (λ id. nat_lt id bots) (flat_map ids_of_change w.changes)) a.1 in
      record { caller = leb-true w.caller 15 c.0; turn = leb-true w.turn 65535 c.1; action = ltb-true w.action actions b.1; bot = ltb-true w.bot bots d.0; ids = d.1 }

  module _ (old : Bool) where
    -- an entry that a text can hold, which has values before exactly where the text has them
    record IsFit (w : WrittenEntry) : Type 0 where
      pub keeps : KeepsLimits bots actions vars w
      pub marked : All (λ (t : WrittenChange). is_some t.1 ≡ old) w.changes

    module _ (before : ℕ) (room : before < most_turns) (e : WrittenEntry) (fit : IsFit e) where
      abbrev its_numbers : Numbers
      its_numbers = numbers_of before e.caller e.turn e.bot e.action

      known : Ranges e
      known = ranges e fit.keeps.known

      the_numbers : Rereads AreNumbers (Is its_numbers) (entry_numbers before e)
      the_numbers =
          let r = known in
          rereads_then (decimal before ∷ []) (decimal e.caller ∷ decimal e.turn ∷ decimal e.bot ∷ decimal e.action ∷ []) before (any_number before (omega arith))
          (rereads_then (decimal e.caller ∷ []) (decimal e.turn ∷ decimal e.bot ∷ decimal e.action ∷ []) e.caller (any_number e.caller (let b = r.caller in omega arith))
          (rereads_then (decimal e.turn ∷ []) (decimal e.bot ∷ decimal e.action ∷ []) e.turn (any_number e.turn (let b = r.turn in omega arith))
          (rereads_then (decimal e.bot ∷ []) (decimal e.action ∷ []) e.bot (any_number e.bot (let b = r.bot in omega arith))
          (rereads_as (λ action. numbers_of before e.caller e.turn e.bot action) (decimal e.action ∷ []) e.action (any_number e.action (let b = r.action in omega arith))))))

      abbrev its_rest : Rest
      its_rest = a_rest its_numbers e.moved e.changes

      abbrev rest_words : Words
      rest_words = entry_numbers before e ++ (moved_words e.moved ++ flat_map (change_words vars) e.changes)

      the_rest : Rereads (IsRest old vars) (Is its_rest) rest_words
      the_rest =
          let k = fit.keeps in
          rereads_then (entry_numbers before e) (moved_words e.moved ++ flat_map (change_words vars) e.changes) its_numbers the_numbers
          (rereads_then (moved_words e.moved) (flat_map (change_words vars) e.changes) e.moved (a_movement e.moved k.movement)
          (rereads_as (λ ts. a_rest its_numbers e.moved ts) (flat_map (change_words vars) e.changes) e.changes (many_pairs bots vars few_bots le old 10 e.changes k.few fit.marked k.pairs known.ids)))

      entry_token : IsOneToken (codes "entry")
      entry_token = word_is_token _ _ refl refl (omega arith)

      entry_kind : kind_of (codes "entry") ≡ Word
      entry_kind = refl

      the_entry_word : Rereads (IsEntryWord before) Any (codes "entry" ∷ [])
      the_entry_word = rereads_made (λ (t : Lexeme). t.line) (codes "entry" ∷ []) (λ t s. tt) (one_rereads (codes "entry") entry_token (one_found (codes "entry") (the_passes Word (codes "entry") entry_kind refl) (λ t s. not_past before most_turns room)))

      the_written : Rereads (IsWrittenEntry old vars before) (λ w. (w.place ≡ before) × (w.entry ≡ e)) (entry_words vars (before, e))
      the_written = rereads_behind (codes "entry" ∷ []) rest_words the_entry_word the_rest.spelled the_rest.printed (λ line x ts s. found_with old vars line its_rest ts (the_rest.read ts s))

      not_wrong : (w : Written) → (w.place ≡ before) × (w.entry ≡ e) → entry_fault bots actions before w ≡ None
      not_wrong w h =
          let a : (w.place == before) ≡ true = ap (λ n. n == before) h.0 ∙ same_number before in
          let b : is_known bots actions w.entry ≡ true = ap (is_known bots actions) h.1 ∙ fit.keeps.known in
          rw (a, b) refl

      the_entry : {E : Type 0} (make : WrittenEntry → E) → Rereads (IsEntryBy old make bots actions vars before) (Is (make e)) (entry_words vars (before, e))
      the_entry make = rereads_made (λ (w : Written). make w.entry) (entry_words vars (before, e)) (λ w h. ap make h.1) (rereads_judged (entry_fault bots actions before) (entry_words vars (before, e)) not_wrong the_written)

    module _ {E : Type 0} (make : WrittenEntry → E) where
      the_entries : (before : ℕ) (ws : List WrittenEntry) → before + length ws ≤ most_turns → All IsFit ws → RereadsLines (AreEntriesBy old make bots actions vars before) (Is (map make ws)) (map (entry_words vars) (enumerate_from before ws))
      the_entries before [] room all = lines_nothing [] no_more
      the_entries before (w ∷ ws) room all =
          let one : suc before ≡ before + 1 = omega arith in
          let more = the_entries (before + 1) ws (omega arith) (All-tail IsFit w ws all) in
          lines_more (IsEntryBy old make bots actions vars) one_more before (entry_words vars (before, w) ∷ []) (map (entry_words vars) (enumerate_from (before + 1) ws)) (make w) (map make ws)
          (reread_line (entry_words vars (before, w)) (the_entry before (omega arith) w (All-head IsFit w ws all) make))
          (subst (λ (n : ℕ). RereadsLines (AreEntriesBy old make bots actions vars n) (Is (map make ws)) (map (entry_words vars) (enumerate_from (before + 1) ws))) (sym one) more)

      the_first_word : Rereads (IsWord (codes "journal")) Any (codes "journal" ∷ [])
      the_first_word = the_word _ _ refl refl (omega arith) refl

      entry_lines : (ws : List WrittenEntry) → length ws ≤ most_turns → All IsFit ws → RereadsLines (IsJournalOf old make bots actions vars) (Is (map make ws)) (the_section vars ws)
      entry_lines ws room all =
          let in_room : 0 + length ws ≤ most_turns = omega (arith, room) in
          let lines = written_lines vars ws in
          let last = reread_line (codes "end" ∷ []) (rereads_made (λ line. map make ws) (codes "end" ∷ []) (λ line x. refl) the_last_word) in
          let first = reread_line (codes "journal" ∷ []) the_first_word in
          lines_next ((codes "journal" ∷ []) ∷ []) (lines ++ (codes "end" ∷ []) ∷ []) first
          (lines_then lines ((codes "end" ∷ []) ∷ []) (map make ws) (the_entries 0 ws in_room all) last)

  -- ---- what is written of entries of either kind

  module _ {E : Type 0} (old : Bool) (make : WrittenEntry → E) (written : E → WrittenEntry) (again : (e : E) → make (written e) ≡ e)
      (marked : (e : E) → All (λ (t : WrittenChange). is_some t.1 ≡ old) (written e).changes) where
    made_again : (es : List E) → map make (map written es) ≡ es
    made_again [] = refl
    made_again (e ∷ es) = ap (λ (d : E). d ∷ map make (map written es)) (again e) ∙ ap (λ (ds : List E). e ∷ ds) (made_again es)

    are_fit : (es : List E) → All (λ e. KeepsLimits bots actions vars (written e)) es → All (IsFit old) (map written es)
    are_fit [] all = All-nil (IsFit old)
    are_fit (e ∷ es) all =
        All-cons (IsFit old) (written e) (map written es) (record { keeps = All-head (λ e. KeepsLimits bots actions vars (written e)) e es all; marked = marked e })
        (are_fit es (All-tail (λ e. KeepsLimits bots actions vars (written e)) e es all))

    lines_read_back : (es : List E) → length es ≤ most_turns → All (λ e. KeepsLimits bots actions vars (written e)) es → RereadsLines (IsJournalOf old make bots actions vars) (Is es) (the_section vars (map written es))
    lines_read_back es few all =
        let same : length (map written es) ≡ length es = length-map es written in
        subst (λ (ds : List E). RereadsLines (IsJournalOf old make bots actions vars) (Is ds) (the_section vars (map written es))) (made_again es)
        (entry_lines old make (map written es) (omega (arith, same, few)) (are_fit es all))

  -- ---- with old values

  old_values : (e : Entry) → All (λ (t : WrittenChange). is_some t.1 ≡ true) (written_full e).changes
  old_values e = All-map (λ (t : WrittenChange). is_some t.1 ≡ true) change_in_full e.patch (λ k d inside. refl)

  full_again : (e : Entry) → entry_by (written_full e) ≡ e
  full_again e = ap (λ (ts : Triples). record { caller = e.caller; turn = e.turn; bot = e.bot; action = e.action; moved = e.moved; patch = ts }) (map-map _ _ e.patch ∙ map-id e.patch)

  pub journal_lines : (es : List Entry) → length es ≤ most_turns → All (λ e. KeepsLimits bots actions vars (written_full e)) es → RereadsLines (IsJournal bots actions vars) (Is es) (the_section vars (map written_full es))
  journal_lines = lines_read_back true entry_by written_full full_again old_values

  -- ---- without old values

  no_old_value : (e : PlainEntry) → All (λ (t : WrittenChange). is_some t.1 ≡ false) (written_plain e).changes
  no_old_value e = All-map (λ (t : WrittenChange). is_some t.1 ≡ false) change_of_pair e.patch (λ k d inside. refl)

  plain_again : (e : PlainEntry) → plain_by (written_plain e) ≡ e
  plain_again e =
      ap (λ (ps : Pairs). record e { patch = ps })
      (ap (map plain_triple) (map-map full_change change_of_pair e.patch)
      ∙ map-map plain_triple (λ p. full_change (change_of_pair p)) e.patch ∙ map-id e.patch)

  pub plain_journal_lines : (es : List PlainEntry) → length es ≤ most_turns → All (λ e. KeepsLimits bots actions vars (written_plain e)) es → RereadsLines (IsPlainJournal bots actions vars) (Is es) (the_section vars (map written_plain es))
  plain_journal_lines = lines_read_back false plain_by written_plain plain_again no_old_value

pub journals_reread : JournalsReadBack
journals_reread bots actions vars es few_bots few_actions le few all =
    lines_say (IsJournal bots actions vars) es _ (journal_lines bots actions vars few_bots few_actions le es few all)

pub plain_journals_reread : PlainJournalsReadBack
plain_journals_reread bots actions vars es few_bots few_actions le few all =
    lines_say (IsPlainJournal bots actions vars) es _ (plain_journal_lines bots actions vars few_bots few_actions le es few all)
