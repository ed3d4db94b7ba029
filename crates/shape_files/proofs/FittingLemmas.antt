-- What a document has fits together.
use Rattle.std.proofs.Common.{◌≡◌, ℕ, ◌<◌, ◌≤◌, Bool, true, false, cond, List, [], ◌∷◌, length, map, Option, Some, None, codes, refl, sym, ap, subst, ◌∙◌}
use Rattle.std.specs.Prelude.{◌==◌, ◌&&◌, nat_lt, nat_le}
use Rattle.std.specs.List.{All, flat_map, list_all}
use Rattle.std.specs.Option.{IsSome}
use Rattle.std.proofs.lemmas.Bool.{ltb-true, and_parts}
use Rattle.std.proofs.lemmas.List.Elements.{All-nil, All-cons, All-head, All-tail, All-append, All-replicate}
use Rattle.text_tokens.specs.declared.refusal.Refusal.{Refusal}
use Rattle.text_tokens.specs.declared.refusal.RefusalKind.TheVariants.{TooMany, BadId, BadEntry, BadPlace}
use Rattle.text_tokens.specs.Text.{Lexeme}
use Rattle.text_tokens.specs.Reading.{lexeme_value}
use Rattle.text_tokens.specs.Scan.{ahead_of, last_of}
use Rattle.text_tokens.specs.Grammar.{tokens, Then}
use Rattle.text_tokens.specs.Lawful.{IsWhole}
use Rattle.text_tokens.specs.Inputs.{IsInput}
use Rattle.text_tokens.specs.declared.refusal.RefusalKind.TheVariants.{Trailing}
use Rattle.text_tokens.proofs.Blanks.{point}
use Rattle.text_tokens.proofs.PromisesLemmas.{tokens_of_text}
use Rattle.amoebot_state.specs.declared.verdict.Entry.{Entry}
use Rattle.amoebot_state.specs.declared.verdict.PlainEntry.{PlainEntry}
use Rattle.amoebot_state.specs.Limits.{most_vars}
use Rattle.amoebot_state.specs.Configs.{Config}
use Rattle.claim_core.specs.Limits.{most_turns, most_ids}
use Rattle.claim_core.specs.Turns.{CallerLists, HaveBots}
use Rattle.action_tree.specs.Trees as tree
use Rattle.action_tree.specs.Limits.{most_actions}
use Rattle.action_check.specs.Faults.{faults}
use Rattle.journal_text.specs.Journals.{ids_of_change, named_ids, is_known, WrittenEntry, IsEntryBy, IsJournalOf, entry_by, plain_by}
use Rattle.journal_text.specs.Texts.{written_full, written_plain}
use Rattle.journal_text.proofs.KeptLimits.{known_full, known_plain}
use Rattle.shape_text.specs.Parts.{may_have_walls, has_old_values}
use Rattle.shape_text.proofs.Outside.{within}
use Rattle.shape_text.specs.Shapes.{WrittenWall, written_node, AreWallLines, written_shape, stands_for, IsShapeUnder}
use Rattle.amoebot_state.specs.Walls.{node_numbers}
use Rattle.schedule_text.specs.Lists.{IsId, IsCallerList, IsLists}
use Rattle.schedule_text.specs.Schedules.{most_steps, Stretch, steps_in, IsStretch, IsSchedule}
use Rattle.shape_files.specs.declared.section_kind.Form.{Form}
use Rattle.shape_files.specs.declared.section_kind.Form.TheVariants.{Run, Interleave, Replay, Check, Measure}
use Rattle.shape_files.specs.Frame.{Course, ends, needs, may, may_schedule, may_lists, behind_journal, course_of, IsRest, least_version, greatest_version, IsVersion, IsHeaderFrom}
use Rattle.shape_files.specs.declared.section_kind.Section.TheVariants as section
use Rattle.shape_files.specs.FrameLaws.{IsStraight}
use Rattle.shape_files.specs.Documents.{Contents, nothing_yet, maxes_in, first_in, IsCheckedProgram, JournalBody, Body, IsDocument, HasContents}
use Rattle.shape_files.specs.Fitting.{HasJournalBy, HasJournal, AreTogether, AreEntriesOf, FitTogether, Fits, DocumentsFit}
use Rattle.shape_files.proofs.Fine.{Fine, both_of, made_of, step_of, closed_of, judged_of, nothing_of, either_of, one_of, numeral_of, all_of, counted_of, at_most_of}
use Rattle.shape_files.proofs.StraightForms.{straight_texts, forms_are_distinct}
use Rattle.shape_files.proofs.SectionLemmas.{are_sections}

-- ---- the program

pub record IsChecked (p : tree.Program) : Type 0 where
  pub checked : faults p ≡ []
  pub vars : length p.vars ≤ most_vars
  pub actions : length p.actions ≤ most_actions

pub no_first : (rs : List Refusal) → first_in rs ≡ None → rs ≡ []
no_first [] e = refl
no_first (r ∷ rs) e = absurd cc

pub program_fits : (p : tree.Program) → Fine IsCheckedProgram p → IsChecked p
program_fits p f =
    let j = judged_of f in
    let word = both_of j.0 in
    let guard = both_of word.behind in
    let vars = both_of guard.behind in
    let actions = both_of vars.behind in
    let whole = made_of actions.behind in
    record {
      checked = no_first (faults p) j.1;
      vars = subst (λ (p : tree.Program). length p.vars ≤ most_vars) whole.same (at_most_of most_vars vars.before);
      actions = subst (λ (p : tree.Program). length p.actions ≤ most_actions) whole.same (at_most_of most_actions actions.before);
    }

-- ---- shapes

-- a shape of the version with these maxima
record ShapeFits (version : ℕ) (most : List ℕ) (c : Config) : Type 0 where
  pub maxes : c.maxes ≡ most
  pub walls : may_have_walls version ≡ false → c.walls ≡ []

-- a text that may have no walls has none
no_walls : (may : Bool) (ws : List WrittenWall) → Fine (AreWallLines may 0) ws → may ≡ false → ws ≡ []
no_walls true ws f e = absurd cc
no_walls false ws f e = sym (nothing_of f)

shape_fits : (version : ℕ) (text : List ℕ) (vars : ℕ) (maxes : List ℕ) (c : Config) → Fine (IsShapeUnder version text vars maxes) c → ShapeFits version maxes c
shape_fits version text vars maxes c f =
    let whole = made_of f in
    let word = both_of (judged_of whole.before).0 in
    let area = both_of (closed_of word.behind) in
    let walls = both_of area.behind in
    let bots = made_of walls.behind in
    let drawn : stands_for maxes (written_shape area.value walls.value bots.value) ≡ c = ap (stands_for maxes) bots.same ∙ whole.same in
    record {
      maxes = sym (ap (λ (c : Config). c.maxes) whole.same);
      walls = λ none. sym (ap (λ (c : Config). c.walls) drawn) ∙ ap (λ (ws : List WrittenWall). node_numbers area.value (map written_node ws)) (no_walls (may_have_walls version) walls.value walls.before none);
    }

-- ---- numbers of what is known

id_by : (known : ℕ) (t : Lexeme) (a b : Bool) → nat_lt (lexeme_value t) known ≡ b → cond a (cond b None (Some BadId)) (Some TooMany) ≡ None → lexeme_value t < known
id_by known t true true e f = ltb-true _ _ e
id_by known t true false e f = absurd cc
id_by known t false b e f = absurd cc

-- ---- lists

module _ (bots : ℕ) where
  id_fits : (n id : ℕ) → Fine (IsId bots n) id → id < bots
  id_fits n id f = let o = numeral_of f in subst (λ (i : ℕ). i < bots) o.is (id_by bots o.t (nat_lt n most_ids) (nat_lt (lexeme_value o.t) bots) refl o.within)

  list_fits : (turns n : ℕ) (ids : List ℕ) → Fine (IsCallerList bots turns n) ids → All (λ id. id < bots) ids
  list_fits turns n ids f =
      let word = both_of f in
      let first = both_of word.behind in
      let more = made_of first.behind in
      subst (λ (ids : List ℕ). All (λ id. id < bots) ids) more.same
      (All-cons (λ id. id < bots) first.value more.value (id_fits 0 first.value first.before) (all_of (λ (id : ℕ). id < bots) id_fits more.before))

  lists_fit : (l : CallerLists) → Fine (IsLists bots) l → HaveBots bots l
  lists_fit l f =
      let word = both_of f in
      let turns = both_of word.behind in
      let lists = made_of (closed_of turns.behind) in
      subst (λ (l : CallerLists). HaveBots bots l) lists.same (all_of (λ (ids : List ℕ). All (λ id. id < bots) ids) (list_fits turns.value) lists.before)

-- ---- schedules

module _ (callers : ℕ) where
  stretch_fits : (n : ℕ) (s : Stretch) → Fine (IsStretch callers n) s → s.caller < callers
  stretch_fits n s f =
      let caller = both_of f in
      let o = numeral_of caller.before in
      let times = made_of caller.behind in
      subst (λ (s : Stretch). s.caller < callers) times.same (subst (λ (c : ℕ). c < callers) o.is (id_by callers o.t (nat_lt n most_steps) (nat_lt (lexeme_value o.t) callers) refl o.within))

  steps_fit : (ss : List Stretch) → All (λ s. s.caller < callers) ss → All (λ caller. caller < callers) (flat_map steps_in ss)
  steps_fit [] all = All-nil (λ caller. caller < callers)
  steps_fit (s ∷ ss) all =
      All-append (λ caller. caller < callers) (steps_in s) (flat_map steps_in ss)
      (All-replicate (λ caller. caller < callers) s.times s.caller (All-head (λ s. s.caller < callers) s ss all))
      (steps_fit ss (All-tail (λ s. s.caller < callers) s ss all))

  schedule_fits : (steps : List ℕ) → Fine (IsSchedule callers) steps → All (λ caller. caller < callers) steps
  schedule_fits steps f =
      let word = both_of f in
      let ss = made_of (closed_of word.behind) in
      subst (λ (steps : List ℕ). All (λ caller. caller < callers) steps) ss.same (steps_fit ss.value (all_of (λ (s : Stretch). s.caller < callers) stretch_fits ss.before))

-- ---- journals

room_by : (n most : ℕ) (a : Bool) → nat_lt n most ≡ a → cond a None (Some TooMany) ≡ None → n < most
room_by n most true e f = ltb-true _ _ e
room_by n most false e f = absurd cc

known_by : (line : ℕ) (a b : Bool) → cond {A = Option Refusal} a (cond {A = Option Refusal} b None (Some (record { line = line; kind = BadEntry }))) (Some (record { line = line; kind = BadPlace })) ≡ None → b ≡ true
known_by line true true e = refl
known_by line true false e = absurd cc
known_by line false b e = absurd cc

-- the amoebot of an entry that is known is there
bot_known : (bots actions : ℕ) (w : WrittenEntry) → is_known bots actions w ≡ true → w.bot < bots
bot_known bots actions w known =
    let a = and_parts (nat_le w.caller 15 && nat_le w.turn 65535 && nat_lt w.action actions) (list_all (λ id. nat_lt id bots) (named_ids w)) known in
    ltb-true w.bot bots (and_parts (nat_lt w.bot bots) (list_all (λ id. nat_lt id bots) (flat_map ids_of_change w.changes)) a.1).0

-- Entries in texts with old values or without, and how what is made of one is written.
module _ {E : Type 0} (old : Bool) (make : WrittenEntry → E) (written : E → WrittenEntry) (bots actions vars : ℕ) where
  record EntryFits (n : ℕ) (e : E) : Type 0 where
    room : n < most_turns
    known : is_known bots actions (written e) ≡ true

  -- what is made of a known entry is known as it is written again
  module _ (again : (w : WrittenEntry) → is_known bots actions w ≡ true → is_known bots actions (written (make w)) ≡ true) where
    entry_fits : (n : ℕ) (e : E) → Fine (IsEntryBy old make bots actions vars n) e → EntryFits n e
    entry_fits n e f =
        let m = made_of f in
        let w = m.value in
        let j = judged_of m.before in
        let word = made_of (both_of j.0).before in
        record {
          room = room_by n most_turns (nat_lt n most_turns) refl (one_of word.before);
          known = subst (λ (e : E). is_known bots actions (written e) ≡ true) m.same (again w.entry (known_by w.line (w.place == n) (is_known bots actions w.entry) j.1));
        }

    journal_fits : (es : List E) → Fine (IsJournalOf old make bots actions vars) es → AreEntriesOf written bots actions es
    journal_fits es f =
        let entries = closed_of (both_of f).behind in
        record {
          few = counted_of (λ n. IsEntryBy old make bots actions vars n) most_turns (λ n e g. (entry_fits n e g).room) es entries;
          there = all_of (λ (e : E). (written e).bot < bots) (λ n e g. bot_known bots actions (written e) (entry_fits n e g).known) entries;
          known = all_of (λ (e : E). is_known bots actions (written e) ≡ true) (λ n e g. (entry_fits n e g).known) entries;
        }

-- ---- documents

abbrev At : ℕ → Option tree.Program → Option Config → Option CallerLists → Option (List ℕ) → Option (List Entry) → Option (List PlainEntry) → Option Config → Contents
At version p w l s e n f = record { version = version; checked = p; world = w; lists = l; schedule = s; entries = e; plain = n; final_world = f }

-- a course as it is written down, without a fault, which leads from one state to another
abbrev pub There : Course → Contents → Contents → Type 0
There c s a = Fine (IsStraight Body c s) a

-- turns stand for nothing
turns_or : (s a : Contents) → There (may section.Turns ends ends) s a → s ≡ a
turns_or s a f = either_of with_turns without f
  where
    with_turns : There (needs section.Turns ends) s a → s ≡ a
    with_turns g = let t = step_of g in nothing_of t.behind

    without : There ends s a → s ≡ a
    without g = nothing_of g

-- a document with a journal and a last shape that fits together
record IsRecorded (a : Contents) : Type 0 where
  checked : IsSome a.checked
  world : IsSome a.world
  journal : HasJournal a
  final_world : IsSome a.final_world
  ends : AreTogether a
  together : FitTogether a

module _ (version : ℕ) (right : IsVersion version) (p : tree.Program) (checked : IsChecked p) where
  only_program : FitTogether (At version (Some p) None None None None None None)
  only_program = record { version = right; checked = checked.checked; vars = checked.vars; actions = checked.actions; world = tt; final_world = tt; walls = λ none. (tt, tt); lists = tt; schedule = tt; entries = tt; plain = tt; by_version = (λ old. refl, λ none. refl) }

  module _ (c : Config) (shape : ShapeFits version (maxes_in (Some p)) c) where
    abbrev Listed : Option CallerLists → Option (List ℕ) → Contents
    Listed l s = At version (Some p) (Some c) l s None None None

    abbrev Whole : Option CallerLists → Option (List ℕ) → Option (List Entry) → Option (List PlainEntry) → Config → Contents
    Whole l s e n w = At version (Some p) (Some c) l s e n (Some w)

    and_shape : FitTogether (Listed None None)
    and_shape = record { version = right; checked = checked.checked; vars = checked.vars; actions = checked.actions; world = shape.maxes; final_world = tt; walls = λ none. (shape.walls none, tt); lists = tt; schedule = tt; entries = tt; plain = tt; by_version = (λ old. refl, λ none. refl) }

    and_lists : (l : CallerLists) → HaveBots (length c.bots) l → FitTogether (Listed (Some l) None)
    and_lists l bots = record { version = right; checked = checked.checked; vars = checked.vars; actions = checked.actions; world = shape.maxes; final_world = tt; walls = λ none. (shape.walls none, tt); lists = (refl, bots); schedule = tt; entries = tt; plain = tt; by_version = (λ old. refl, λ none. refl) }

    and_schedule : (l : CallerLists) (steps : List ℕ) → HaveBots (length c.bots) l → All (λ caller. caller < length l.ids) steps → FitTogether (Listed (Some l) (Some steps))
    and_schedule l steps bots callers = record { version = right; checked = checked.checked; vars = checked.vars; actions = checked.actions; world = shape.maxes; final_world = tt; walls = λ none. (shape.walls none, tt); lists = (refl, bots); schedule = (refl, callers); entries = tt; plain = tt; by_version = (λ old. refl, λ none. refl) }

    module _ (l : Option CallerLists) (s : Option (List ℕ)) (w : Config) (t : FitTogether (Listed l s)) (last : ShapeFits version (maxes_in (Some p)) w) where
      and_full : has_old_values version ≡ true → (es : List Entry) → AreEntriesOf written_full (length c.bots) (length p.actions) es → IsRecorded (Whole l s (Some es) None w)
      and_full old es entries =
          let journal : HasJournal (Whole l s (Some es) None w) = subst (λ (o : Bool). HasJournalBy o (Whole l s (Some es) None w)) (sym old) refl in
          record {
            checked = refl;
            world = refl;
            journal = journal;
            final_world = refl;
            ends = record { last = refl; last_plain = tt; first = journal };
            together = record { version = t.version; checked = t.checked; vars = t.vars; actions = t.actions; world = t.world; final_world = last.maxes; walls = λ none. (shape.walls none, last.walls none); lists = t.lists; schedule = t.schedule; entries = entries; plain = tt; by_version = (λ same. refl, λ none. absurd (let no : true ≡ false = sym old ∙ none in cc)) };
          }

      and_plain : has_old_values version ≡ false → (ps : List PlainEntry) → AreEntriesOf written_plain (length c.bots) (length p.actions) ps → IsRecorded (Whole l s None (Some ps) w)
      and_plain none ps entries =
          let journal : HasJournal (Whole l s None (Some ps) w) = subst (λ (o : Bool). HasJournalBy o (Whole l s None (Some ps) w)) (sym none) refl in
          record {
            checked = refl;
            world = refl;
            journal = journal;
            final_world = refl;
            ends = record { last = tt; last_plain = refl; first = journal };
            together = record { version = t.version; checked = t.checked; vars = t.vars; actions = t.actions; world = t.world; final_world = last.maxes; walls = λ none. (shape.walls none, last.walls none); lists = t.lists; schedule = t.schedule; entries = tt; plain = entries; by_version = (λ old. absurd (let no : true ≡ false = sym old ∙ none in cc), λ same. refl) };
          }

    module _ (a : Contents) (G : Type 0) where
      -- a schedule, or none
      schedule_or : (rest : Course) (l : CallerLists) → HaveBots (length c.bots) l → ((s : Option (List ℕ)) → FitTogether (Listed (Some l) s) → There rest (Listed (Some l) s) a → G) → There (may_schedule rest) (Listed (Some l) None) a → G
      schedule_or rest l bots go f = either_of with_schedule (λ g. go None (and_lists l bots) g) f
        where
          with_schedule : There (needs section.Schedule rest) (Listed (Some l) None) a → G
          with_schedule g = let s = step_of g in go (Some s.value) (and_schedule l s.value bots (schedule_fits (length l.ids) s.value s.before)) s.behind

      -- lists and perhaps a schedule, or neither
      lists_or : (rest : Course) → ((l : Option CallerLists) (s : Option (List ℕ)) → FitTogether (Listed l s) → There rest (Listed l s) a → G) → There (may_lists rest) (Listed None None) a → G
      lists_or rest go f = either_of with_lists (λ g. go None None and_shape g) f
        where
          with_lists : There (needs section.Lists (may_schedule rest)) (Listed None None) a → G
          with_lists g = let l = step_of g in schedule_or rest l.value (lists_fit (length c.bots) l.value l.before) (λ s t h. go (Some l.value) s t h) l.behind

      -- a last shape behind a journal, with turns or without
      last_of_record : (l : Option CallerLists) (s : Option (List ℕ)) (e : Option (List Entry)) (n : Option (List PlainEntry)) → ((w : Config) → ShapeFits version (maxes_in (Some p)) w → IsRecorded (Whole l s e n w))
          → ((b : Contents) → IsRecorded b → b ≡ a → G) → There behind_journal (At version (Some p) (Some c) l s e n None) a → G
      last_of_record l s e n fits go f =
          let w = step_of f in
          go (Whole l s e n w.value) (fits w.value (shape_fits version (codes "final") (length p.vars) (maxes_in (Some p)) w.value w.before)) (turns_or (Whole l s e n w.value) a w.behind)

      -- a journal, with old values or without, and what stands behind it
      recorded_by : (old : Bool) → has_old_values version ≡ old → (l : Option CallerLists) (s : Option (List ℕ)) → FitTogether (Listed l s) → ((b : Contents) → IsRecorded b → b ≡ a → G)
          → Fine (Then (JournalBody old (Listed l s)) (λ r. IsStraight Body behind_journal r)) a → G
      recorded_by true is l s t go f =
          let es = step_of f in
          let entries = journal_fits true entry_by written_full (length c.bots) (length p.actions) (length p.vars) (λ w. known_full (length c.bots) (length p.actions) w) es.value es.before in
          last_of_record l s (Some es.value) None (λ w last. and_full l s w t last is es.value entries) go es.behind
      recorded_by false is l s t go f =
          let ps = step_of f in
          let entries = journal_fits false plain_by written_plain (length c.bots) (length p.actions) (length p.vars) (λ w. known_plain (length c.bots) (length p.actions) w) ps.value ps.before in
          last_of_record l s None (Some ps.value) (λ w last. and_plain l s w t last is ps.value entries) go ps.behind

      recorded : (l : Option CallerLists) (s : Option (List ℕ)) → FitTogether (Listed l s) → ((b : Contents) → IsRecorded b → b ≡ a → G) → There (needs section.Journal behind_journal) (Listed l s) a → G
      recorded l s t go f = recorded_by (has_old_values version) refl l s t go f

    module _ (a : Contents) where
      run_fits : There (needs section.Lists (may_schedule ends)) (Listed None None) a → Fits Run a
      run_fits f =
          let l = step_of f in
          schedule_or a (Fits Run a) ends l.value (lists_fit (length c.bots) l.value l.before)
          (λ s t g. subst (λ (a : Contents). Fits Run a) (nothing_of g) (record { sections = (refl, refl, refl, (refl, refl, refl)); recorded = record { last = tt; last_plain = tt; first = tt }; together = t })) l.behind

      interleave_fits : There (needs section.Lists (needs section.Schedule ends)) (Listed None None) a → Fits Interleave a
      interleave_fits f =
          let l = step_of f in
          let s = step_of l.behind in
          let bots = lists_fit (length c.bots) l.value l.before in
          subst (λ (a : Contents). Fits Interleave a) (nothing_of s.behind) (record { sections = (refl, refl, refl, refl, (refl, refl, refl)); recorded = record { last = tt; last_plain = tt; first = tt }; together = and_schedule l.value s.value bots (schedule_fits (length l.value.ids) s.value s.before) })

      check_fits : There (may_lists ends) (Listed None None) a → Fits Check a
      check_fits f = lists_or a (Fits Check a) ends (λ l s t g. subst (λ (a : Contents). Fits Check a) (nothing_of g) (record { sections = (refl, (refl, refl, refl)); recorded = record { last = tt; last_plain = tt; first = tt }; together = t })) f

      replay_fits : There (may_lists (needs section.Journal behind_journal)) (Listed None None) a → Fits Replay a
      replay_fits f = lists_or a (Fits Replay a) (needs section.Journal behind_journal) (λ l s t g. recorded a (Fits Replay a) l s t
          (λ b r same. subst (λ (a : Contents). Fits Replay a) same (record { sections = (r.checked, r.world, r.journal, r.final_world); recorded = r.ends; together = r.together })) g) f

      measure_fits : There (may_lists (may section.Journal behind_journal ends)) (Listed None None) a → Fits Measure a
      measure_fits f = lists_or a (Fits Measure a) (may section.Journal behind_journal ends) (λ l s t g. either_of (with_record l s t) (without l s t) g) f
        where
          with_record : (l : Option CallerLists) (s : Option (List ℕ)) → FitTogether (Listed l s) → There (needs section.Journal behind_journal) (Listed l s) a → Fits Measure a
          with_record l s t h = recorded a (Fits Measure a) l s t (λ b r same. subst (λ (a : Contents). Fits Measure a) same (record { sections = (r.checked, r.world); recorded = r.ends; together = r.together })) h

          without : (l : Option CallerLists) (s : Option (List ℕ)) → FitTogether (Listed l s) → There ends (Listed l s) a → Fits Measure a
          without l s t h = subst (λ (a : Contents). Fits Measure a) (nothing_of h) (record { sections = (refl, refl); recorded = record { last = tt; last_plain = tt; first = tt }; together = t })

  -- a shape, and what stands behind it
  shaped : (rest : Course) (a : Contents) (G : Type 0) → ((c : Config) → ShapeFits version (maxes_in (Some p)) c → There rest (At version (Some p) (Some c) None None None None None) a → G) → There (needs section.Shape rest) (At version (Some p) None None None None None None) a → G
  shaped rest a G go f = let c = step_of f in go c.value (shape_fits version (codes "shape") (length p.vars) (maxes_in (Some p)) c.value c.before) c.behind

abbrev behind_program : Form → Course
behind_program Run = needs section.Shape (needs section.Lists (may_schedule ends))
behind_program Interleave = needs section.Shape (needs section.Lists (needs section.Schedule ends))
behind_program Check = may section.Shape (may_lists ends) ends
behind_program Replay = needs section.Shape (may_lists (needs section.Journal behind_journal))
behind_program Measure = needs section.Shape (may_lists (may section.Journal behind_journal ends))

program_first : (form : Form) → course_of form ≡ needs section.Program (behind_program form)
program_first Run = refl
program_first Interleave = refl
program_first Check = refl
program_first Replay = refl
program_first Measure = refl

module _ (version : ℕ) (right : IsVersion version) (p : tree.Program) (checked : IsChecked p) (a : Contents) where
  no_shape : There ends (At version (Some p) None None None None None None) a → Fits Check a
  no_shape g = subst (λ (a : Contents). Fits Check a) (nothing_of g) (record { sections = (refl, (refl, refl, refl)); recorded = record { last = tt; last_plain = tt; first = tt }; together = only_program version right p checked })

  a_shape : There (needs section.Shape (may_lists ends)) (At version (Some p) None None None None None None) a → Fits Check a
  a_shape g = shaped version right p checked (may_lists ends) a (Fits Check a) (λ c m h. check_fits version right p checked c m a h) g

  rest_fits : (form : Form) → There (behind_program form) (At version (Some p) None None None None None None) a → Fits form a
  rest_fits Run f = shaped version right p checked (needs section.Lists (may_schedule ends)) a (Fits Run a) (λ c m g. run_fits version right p checked c m a g) f
  rest_fits Interleave f = shaped version right p checked (needs section.Lists (needs section.Schedule ends)) a (Fits Interleave a) (λ c m g. interleave_fits version right p checked c m a g) f
  rest_fits Check f = either_of a_shape no_shape f
  rest_fits Replay f = shaped version right p checked (may_lists (needs section.Journal behind_journal)) a (Fits Replay a) (λ c m g. replay_fits version right p checked c m a g) f
  rest_fits Measure f = shaped version right p checked (may_lists (may section.Journal behind_journal ends)) a (Fits Measure a) (λ c m g. measure_fits version right p checked c m a g) f

form_fits : (form : Form) (version : ℕ) (a : Contents) → IsVersion version → There (course_of form) (nothing_yet version) a → Fits form a
form_fits form version a right f =
    let g : There (needs section.Program (behind_program form)) (nothing_yet version) a = subst (λ (c : Course). There c (nothing_yet version) a) (program_first form) f in
    let p = step_of g in
    rest_fits version right p.value (program_fits p.value p.before) a form p.behind

-- a version that was read is not below the least one, and is one that there is
pub version_within : (least version : ℕ) → Fine (IsHeaderFrom least) version → (least ≤ version) × (version ≤ greatest_version)
version_within least version f =
    let n = numeral_of (both_of f).behind in
    subst (λ (v : ℕ). (least ≤ v) × (v ≤ greatest_version)) n.is (within least greatest_version n.t n.within)

-- a document has a version, and behind it a text, without a fault, of its form as the form is written down
pub record IsWrittenDown (form : Form) (a : Contents) : Type 0 where
  pub version : ℕ
  pub right : IsVersion version
  pub sections : There (course_of form) (nothing_yet version) a

pub written_down : (form : Form) (bytes : List ℕ) (a : Contents) → HasContents form bytes a → IsWrittenDown form a
written_down form bytes a holds =
    let input : IsInput (IsDocument form) Trailing (last_of (point bytes 0)) (ahead_of (point bytes 0)) a = holds (ahead_of (point bytes 0)) (last_of (point bytes 0)) (tokens_of_text bytes) in
    let w = input.text.whole in
    let whole : Fine (IsDocument form) a = record { text = w.text; is = w.is; fine = w.fine } in
    let both = both_of whole in
    let rest = both.behind in
    let version = both.value in
    let behind : IsWhole (IsRest Body (course_of form) (nothing_yet version)) (tokens rest.text) a = record { text = rest.text; is = rest.is; parts = refl; fine = rest.fine } in
    let straight = (straight_texts Body are_sections.start (course_of form) (forms_are_distinct form) (nothing_yet version)).into (tokens rest.text) a behind in
    record { version = version; right = version_within least_version version both.before; sections = record { text = straight.text; is = straight.is; fine = straight.fine } }

pub documents_fit : DocumentsFit
documents_fit form bytes a holds = let w = written_down form bytes a holds in form_fits form w.version a w.right w.sections
