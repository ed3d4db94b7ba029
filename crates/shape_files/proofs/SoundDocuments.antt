-- The shapes of a document are those of worlds, and its lists are such as callers may have.
use Rattle.std.proofs.Common.{◌≡◌, ℕ, ℤ, zero, suc, pos, ◌+◌, ◌-◌, ◌*◌, ◌<◌, ◌≤◌, Bool, true, false, cond, List, [], ◌∷◌, length, map, replicate, Option, Some, None, codes, refl, sym, ap, subst, ◌∙◌, arith, length-append}
use Rattle.std.specs.Prelude.{◌&&◌, ◌≤ℤ◌, neg_ℤ, nat_lt, nat_le, if◌then◌else◌}
use Rattle.std.specs.Option.{IfSome}
use Rattle.std.proofs.lemmas.Bool.{and_parts, ltb-true, leb-true}
use Rattle.std.proofs.lemmas.Bool.Decides.{nat_tests}
use Rattle.std.proofs.lemmas.Int.{ints}
use Rattle.std.proofs.lemmas.List.{length-map}
use Rattle.std.proofs.lemmas.List.Elements.{All-map}
use Rattle.tri_lattice.specs.declared.node.Node.{Node}
use Rattle.tri_lattice.specs.Extent.{Extent, IsArea, most_side, most_start}
use Rattle.tri_lattice.specs.Lattice.{IsNear}
use Rattle.text_tokens.specs.declared.refusal.RefusalKind.{RefusalKind}
use Rattle.text_tokens.specs.declared.refusal.RefusalKind.TheVariants.{BadId, BadRange, TooMany}
use Rattle.text_tokens.specs.Grammar.{Symbol, first_fault, Lang, Repeated, no_more, one_more, Times}
use Rattle.text_tokens.specs.Reading.{lexeme_value}
use Rattle.text_tokens.proofs.ListSplits.{fine-parts}
use Rattle.amoebot_state.specs.declared.bot.Bot.{Bot}
use Rattle.amoebot_state.specs.Configs.{Config}
use Rattle.amoebot_state.specs.Limits.{most_bots, most_vars, most_value}
use Rattle.amoebot_state.specs.Refusals.{IsBotInRange}
use Rattle.amoebot_state.proofs.Faults.{walled_frame_is_valid, faultless_is_valid}
use Rattle.amoebot_state.proofs.Options.{all_there}
use Rattle.claim_core.specs.Limits.{most_callers, most_ids, most_turns}
use Rattle.claim_core.specs.Turns.{CallerLists, AreFew, AreLists, IsList}
use Rattle.action_tree.specs.Trees as tree
use Rattle.action_check.specs.Maxes.{first_or_zero}
use Rattle.shape_text.specs.Limits.{most_coordinate}
use Rattle.shape_text.specs.Parts.{IsBotText, IsInt, IsNode, IsUpTo, memory, has_old_values}
use Rattle.shape_text.proofs.Outside.{within}
use Rattle.shape_text.specs.Shapes.{WrittenBot, WrittenShape, written_shape, written_node, written_amoebot, shape_frame, written_node, stands_for, IsSide, IsAreaLine, IsBotLine, IsShapeUnder}
use Rattle.shape_text.proofs.JudgementsLemmas.{unrefused}
use Rattle.schedule_text.specs.Lists.{IdsFrom, IsCallerList, IsId, IsLists}
use Rattle.shape_files.specs.declared.section_kind.Section.{Section}
use Rattle.shape_files.specs.declared.section_kind.Section.TheVariants as section
use Rattle.shape_files.specs.Frame.{Course, ends, needs, may, course_of}
use Rattle.shape_files.specs.Documents.{Contents, nothing_yet, JournalBody, Body, var_count, maxes_in, bots_of}
use Rattle.shape_files.specs.Fitting.{IsWorldShape, DocumentsAreSound}
use Rattle.shape_files.proofs.Fine.{Fine, both_of, made_of, closed_of, judged_of, nothing_of, either_of, one_of, numeral_of, all_of, counted_of}
use Rattle.shape_files.proofs.FittingLemmas.{There, program_fits, written_down}
use Rattle.shape_files.proofs.WritablePrograms.{program_written}

-- what passed a limit
passed : (a : Bool) → cond {A = Option RefusalKind} a None (Some TooMany) ≡ None → a ≡ true
passed true e = refl
passed false e = absurd (cc)

-- ---- numbers

within_most : (most n : ℕ) → Fine (IsUpTo most) n → n ≤ most
within_most most n f = let t = numeral_of f in by (nat_lt most (lexeme_value t.t)) refl t.within t.is
  where
    by : {v : ℕ} (b : Bool) → nat_lt most v ≡ b → (if b then Some BadRange else None) ≡ None → v ≡ n → n ≤ most
    by true e over is = absurd cc
    by false e over is = grind (arith, nat_tests)

pub record IsIntWithin (most : ℕ) (x : ℤ) : Type 0 where
  pub low : neg_ℤ (pos most) ≤ℤ x
  pub high : x ≤ℤ pos most

int_within : (most : ℕ) (x : ℤ) → Fine (IsInt most) x → IsIntWithin most x
int_within most x f = either_of
    (λ g. let n = made_of (both_of g).behind in let le = within_most most n.value n.before in subst (IsIntWithin most) n.same (record { low = omega (arith, ints); high = omega (arith, ints) }))
    (λ g. let n = made_of g in let le = within_most most n.value n.before in subst (IsIntWithin most) n.same (record { low = omega (arith, ints); high = omega (arith, ints) })) f

-- ---- areas and amoebots

side_within : (n : ℕ) → Fine IsSide n → (1 ≤ n) × (n ≤ most_side)
side_within n f =
    let t = numeral_of f in
    let parts = within 1 most_side t.t t.within in
    (subst (λ m. 1 ≤ m) t.is parts.0, subst (λ m. m ≤ most_side) t.is parts.1)

area_within : (a : Extent) → Fine IsAreaLine a → IsArea a
area_within a f =
    let word = both_of f in
    let x0 = both_of word.behind in
    let y0 = both_of x0.behind in
    let w = both_of y0.behind in
    let h = made_of w.behind in
    let x = int_within most_start x0.value x0.before in
    let y = int_within most_start y0.value y0.before in
    let wide = side_within w.value w.before in
    let high = side_within h.value h.before in
    subst IsArea h.same (record { x_low = x.low; x_high = x.high; y_low = y.low; y_high = y.high; w_low = wide.0; w_high = wide.1; h_low = high.0; h_high = high.1 })

node_near : (v : Node) → Fine IsNode v → IsNear v
node_near v f =
    let x = both_of f in
    let y = made_of x.behind in
    let first = int_within most_coordinate x.value x.before in
    let second = int_within most_coordinate y.value y.before in
    let x_low = first.low in
    let x_high = first.high in
    let y_low = second.low in
    let y_high = second.high in
    subst IsNear y.same (omega (arith, ints), omega (arith, ints), omega (arith, ints), omega (arith, ints))

times_length : (n : ℕ) (vs : List ℕ) → Fine (Times (IsUpTo most_value) n) vs → length vs ≡ n
times_length zero vs f = ap length (sym (nothing_of f))
times_length (suc n) vs f =
    let one = both_of f in
    let more = made_of one.behind in
    sym (ap length more.same) ∙ ap suc (times_length n more.value more.before)

length-replicate : (n : ℕ) → length {A = ℕ} (replicate n 0) ≡ n
length-replicate zero = refl
length-replicate (suc n) = ap suc (length-replicate n)

memory_of_eight : (values : List ℕ) → length values ≤ most_vars → length (memory values) ≡ 8
memory_of_eight values few = omega (arith, length-append values (replicate (most_vars - length values) 0), length-replicate (most_vars - length values))

bot_in_range : (vars : ℕ) → vars ≤ most_vars → (b : Bot) → Fine (IsBotText vars) b → IsBotInRange b
bot_in_range vars few b f =
    let head = both_of f in
    let tail = both_of head.behind in
    let rot = both_of tail.behind in
    let chir = both_of rot.behind in
    let values = made_of chir.behind in
    let turned = within_most 5 rot.value rot.before in
    let many : length values.value ≡ vars = times_length vars values.value values.before in
    subst IsBotInRange values.same (record { head = node_near head.value head.before; tail = node_near tail.value tail.before; rot = omega arith; eight = memory_of_eight values.value (omega arith) })

-- ---- shapes

bot_room : (vars n : ℕ) (w : WrittenBot) → Fine (IsBotLine vars n) w → n < most_bots
bot_room vars n w f = let word = made_of (both_of f).before in ltb-true n most_bots (passed (nat_lt n most_bots) (one_of word.before))

line_in_range : (vars : ℕ) → vars ≤ most_vars → (n : ℕ) (w : WrittenBot) → Fine (IsBotLine vars n) w → IsBotInRange (written_amoebot w)
line_in_range vars few n w f = let b = made_of (both_of f).behind in subst (λ (v : WrittenBot). IsBotInRange (written_amoebot v)) b.same (bot_in_range vars few b.value b.before)

shape_drawn : (version : ℕ) (text : List ℕ) (vars : ℕ) (maxes : List ℕ) → vars ≤ most_vars → length maxes ≡ 8 → (c : Config) → Fine (IsShapeUnder version text vars maxes) c → IsWorldShape c
shape_drawn version text vars maxes few_vars eight c f =
    let whole = made_of f in
    let judged = judged_of whole.before in
    let word = both_of judged.0 in
    let area = both_of (closed_of word.behind) in
    let walls = both_of area.behind in
    let bots = made_of walls.behind in
    let few = counted_of (λ n. IsBotLine vars n) most_bots (bot_room vars) bots.value bots.before in
    let each = all_of (λ (w : WrittenBot). IsBotInRange (written_amoebot w)) (line_in_range vars few_vars) bots.before in
    let shape : WrittenShape = written_shape area.value walls.value bots.value in
    let faultless = unrefused maxes shape (subst (λ (s : WrittenShape). Rattle.shape_text.specs.Shapes.shape_fault maxes s ≡ None) (sym bots.same) judged.1) in
    let drawn : IsWorldShape (stands_for maxes shape) = record {
      valid = faultless_is_valid (shape_frame maxes shape) (map written_amoebot bots.value) (walled_frame_is_valid area.value (map written_node walls.value) maxes (area_within area.value area.before) eight) (All-map IsBotInRange written_amoebot bots.value each) faultless;
      few = (let one = length-map bots.value written_amoebot in let all = length-map (map written_amoebot bots.value) Some in omega arith);
      no_gaps = λ id lt. all_there (map written_amoebot bots.value) id lt;
    } in
    subst IsWorldShape whole.same (subst (λ (s : WrittenShape). IsWorldShape (stands_for maxes s)) bots.same drawn)

-- ---- lists

-- what holds at first, and of each number that one more element leaves, holds of the number of all
counted_up : {A : Type 0} (E : ℕ → Lang A) (Q : ℕ → Type 0) → Q 0 → ((n : ℕ) (a : A) → Fine (E n) a → Q (suc n)) → (items : List A) → Fine (Repeated E (λ n a. suc n) 0) items → Q (length items)
counted_up {A} E Q first next items f = by 0 (length items) f.text items first (omega arith) f.is f.fine
  where
    by : (n m : ℕ) (zs : List Symbol) (items : List A) → Q n → n + length items ≡ m → Repeated E (λ n a. suc n) n zs items → first_fault zs ≡ None → Q m
    by n m zs items q all no_more e = let same : n ≡ m = omega arith in subst Q same q
    by n m zs items q all (one_more {xs = xs} {ys = ys} {rest = rest} a p more) e =
        let g = fine-parts xs ys e in
        by (suc n) m ys rest (next n a (record { text = xs; is = p; fine = g.0 })) (omega arith) more g.1

module _ (bots turns : ℕ) where
  list_few : (n : ℕ) (ids : List ℕ) → Fine (IsCallerList bots turns n) ids → AreFew (suc n) turns
  list_few n ids f =
      let word = made_of (both_of f).before in
      let both = and_parts _ _ (passed (nat_le (suc n) most_callers && nat_le (suc n * turns) most_turns) (one_of word.before)) in
      record { at_most_16 = leb-true (suc n) most_callers both.0; in_all = leb-true (suc n * turns) most_turns both.1 }

  id_room : (n id : ℕ) → Fine (IsId bots n) id → n < most_ids
  id_room n id f = let o = numeral_of f in by (nat_lt n most_ids) refl (nat_lt (lexeme_value o.t) bots) o.within
    where
      by : (room : Bool) → nat_lt n most_ids ≡ room → (there : Bool) → (if room then (if there then None else Some BadId) else Some TooMany) ≡ None → n < most_ids
      by true e there over = ltb-true n most_ids e
      by false e there over = absurd cc

  ids_room : (n : ℕ) (ids : List ℕ) → n ≤ most_ids → Fine (IdsFrom bots n) ids → n + length ids ≤ most_ids
  ids_room n ids le f = by n f.text ids le f.is f.fine
    where
      by : (n : ℕ) (zs : List Symbol) (ids : List ℕ) → n ≤ most_ids → IdsFrom bots n zs ids → first_fault zs ≡ None → n + length ids ≤ most_ids
      by n zs ids le no_more e = omega arith
      by n zs ids le (one_more {xs = xs} {ys = ys} {rest = rest} id p more) e =
          let g = fine-parts xs ys e in
          let room = id_room n id (record { text = xs; is = p; fine = g.0 }) in
          omega (arith, by (suc n) ys rest (omega arith) more g.1)

  list_is : (n : ℕ) (ids : List ℕ) → Fine (IsCallerList bots turns n) ids → IsList ids
  list_is n ids f =
      let first = both_of (both_of f).behind in
      let more = made_of first.behind in
      let room = ids_room 1 more.value (omega arith) more.before in
      subst IsList more.same (record { some = omega arith; few = omega arith })

lists_sound : (bots : ℕ) (l : CallerLists) → Fine (IsLists bots) l → AreLists l
lists_sound bots l f =
    let word = both_of f in
    let turns = both_of word.behind in
    let lists = made_of (closed_of turns.behind) in
    let few = counted_up (λ n. IsCallerList bots turns.value n) (λ n. AreFew n turns.value) (record { at_most_16 = omega arith; in_all = omega arith }) (list_few bots turns.value) lists.value lists.before in
    subst AreLists lists.same (record { few = few; each = all_of IsList (list_is bots turns.value) lists.before })

-- ---- documents

-- the maxima of the variables are eight
length-first_or_zero : (n : ℕ) (xs : List ℕ) → length (first_or_zero n xs) ≡ n
length-first_or_zero zero xs = refl
length-first_or_zero (suc n) [] = ap suc (length-first_or_zero n [])
length-first_or_zero (suc n) (x ∷ xs) = ap suc (length-first_or_zero n xs)

eight_maxes : (p : Option tree.Program) → length (maxes_in p) ≡ 8
eight_maxes None = refl
eight_maxes (Some p) = length-first_or_zero most_vars (map (λ v. v.max.value) p.vars)

-- what each section keeps
record IsSoundSoFar (s : Contents) : Type 0 where
  vars : var_count s.checked ≤ most_vars
  world : IfSome s.world IsWorldShape
  final_world : IfSome s.final_world IsWorldShape
  lists : IfSome s.lists AreLists

journal_sound : (old : Bool) (s b : Contents) → IsSoundSoFar s → Fine (JournalBody old s) b → IsSoundSoFar b
journal_sound true s b so f = let x = made_of f in subst IsSoundSoFar x.same (record { vars = so.vars; world = so.world; final_world = so.final_world; lists = so.lists })
journal_sound false s b so f = let x = made_of f in subst IsSoundSoFar x.same (record { vars = so.vars; world = so.world; final_world = so.final_world; lists = so.lists })

section_sound : (k : Section) (s b : Contents) → IsSoundSoFar s → Fine (Body k s) b → IsSoundSoFar b
section_sound section.Program s b so f = let p = made_of f in subst IsSoundSoFar p.same (record { vars = (program_fits p.value p.before).vars; world = so.world; final_world = so.final_world; lists = so.lists })
section_sound section.Shape s b so f = let c = made_of f in subst IsSoundSoFar c.same (record { vars = so.vars; world = shape_drawn s.version (codes "shape") (var_count s.checked) (maxes_in s.checked) so.vars (eight_maxes s.checked) c.value c.before; final_world = so.final_world; lists = so.lists })
section_sound section.Lists s b so f = let l = made_of f in subst IsSoundSoFar l.same (record { vars = so.vars; world = so.world; final_world = so.final_world; lists = lists_sound (bots_of s.world) l.value l.before })
section_sound section.Schedule s b so f = let x = made_of f in subst IsSoundSoFar x.same (record { vars = so.vars; world = so.world; final_world = so.final_world; lists = so.lists })
section_sound section.Journal s b so f = journal_sound (has_old_values s.version) s b so f
section_sound section.Final s b so f = let c = made_of f in subst IsSoundSoFar c.same (record { vars = so.vars; world = so.world; final_world = shape_drawn s.version (codes "final") (var_count s.checked) (maxes_in s.checked) so.vars (eight_maxes s.checked) c.value c.before; lists = so.lists })
section_sound section.Turns s b so f = let x = made_of f in subst IsSoundSoFar x.same so

course_sound : (c : Course) (s a : Contents) → IsSoundSoFar s → There c s a → IsSoundSoFar a
course_sound ends s a so f = subst IsSoundSoFar (nothing_of f) so
course_sound (needs k c) s a so f = let one = both_of f in course_sound c one.value a (section_sound k s one.value so one.before) one.behind
course_sound (may k c d) s a so f = either_of
    (λ g. let one = both_of g in course_sound c one.value a (section_sound k s one.value so one.before) one.behind)
    (λ g. course_sound d s a so g) f

pub documents_are_sound : DocumentsAreSound
documents_are_sound form bytes a holds =
    let w = written_down form bytes a holds in
    let sound = course_sound (course_of form) (nothing_yet w.version) a (record { vars = omega arith; world = tt; final_world = tt; lists = tt }) w.sections in
    record { program = program_written form bytes a holds; world = sound.world; final_world = sound.final_world; lists = sound.lists }
