-- A load of a node's word, and a try to put a tag into it, keep the rule, and tell what was found.
use Rattle.std.proofs.Common.{◌≡◌, ◌≢◌, ℕ, ◌+◌, ◌^◌, ◌<◌, ◌≤◌, List, [], ◌∷◌, length, set, get_or, eqb, Some, None, inl, inr, ap, sym, refl, subst, ◌∙◌, arith, eq-eqb, ne_eqb}
use Rattle.std.specs.Prelude.{slice_get, slice_index, if◌then◌else◌}
use Rattle.std.proofs.lemmas.Bool.{cases_eq}
use Rattle.std.proofs.lemmas.List.{set-set, get_or-set_same}
use Rattle.std.proofs.lemmas.Option.{none-some, same_Some, slice_get-get_or, slice_get_within}
use mathlib.Core.Option as home
use prog.Atomic.{either}
use Rattle.atomic_table.specs.Table.{step, keeps, Allows}
use Rattle.atomic_table.proofs.Lists.{exchanged}
use Rattle.tri_lattice.specs.declared.node.Node.{Node}
use Rattle.amoebot_state.specs.declared.cell.CellName.{CellName}
use Rattle.amoebot_state.specs.declared.cell.CellName.TheVariants as name
use Rattle.amoebot_state.specs.declared.cell.Cell.{Cell}
use Rattle.amoebot_state.specs.declared.cell.Cell.TheVariants as cell
use Rattle.amoebot_state.specs.declared.verdict.Verdict.{Verdict}
use Rattle.amoebot_state.specs.Zones.{Shown}
use Rattle.amoebot_state.specs.Storage.{put_at}
use Rattle.claim_core.specs.declared.state.Caller.{Caller}
use Rattle.claim_core.specs.declared.state.Phase.TheVariants.{Claim, Refusing}
use Rattle.claim_core.specs.Cells.{number, at}
use Rattle.claim_core.specs.Limits.{most_turns}
use Rattle.claim_core.specs.Machine.{Setup, State, bot, own_tag, next_of, after_win, caller_with_cell, wins, claims, finds, tries, by_phase, acts, next, with_caller}
use Rattle.claim_core.specs.Soundness.{IsSetup, Sound, CallerOk, marked}
use Rattle.claim_core.proofs.Tags.{tag-positive}
use Rattle.claim_core.proofs.Places.{get-set_here, get-set_else}
use Rattle.claim_core.proofs.Frames.{own_small, turn_small}
use Rattle.claim_core.proofs.HolderLemmas.{before, refused_by, is_known}
use Rattle.claim_core.proofs.ClaimLemmas.{won_in_order, won_shown}
use Rattle.claim_core.proofs.Ranks.{front, next_is_there, few, placed}
use Rattle.claim_core.proofs.Sounds.{one_step}
use Rattle.claim_rule.specs.declared.views.Slot.{Slot}
use Rattle.claim_rule.specs.declared.views.Note.{Note}
use Rattle.claim_rule.specs.declared.views.Record.{Record}
use Rattle.claim_rule.specs.declared.views.Terms.{Terms}
use Rattle.claim_rule.specs.Words.{word_tag, word_occ, word_stamp}
use Rattle.claim_rule.specs.Views.{Content, Seated, view_of, own, with_note, setup_of_terms}
use Rattle.claim_rule.specs.Manners.{CommitWay, by_journal, first_slotted}
use Rattle.claim_rule.specs.Stands.{cell_tag, turns_left, IsNodeWord, IsWon, AreWon, IsNoted, IsStamped, IsRecord, AreWords, AreHomes, KeepsRule}
use Rattle.claim_rule.specs.Plays.{IsPlaced, IsKnown, IsOthers, IsToTryNode, IsToWin, with_node, refused_at, note_of, LooksAt, TriesNode}
use Rattle.claim_rule.specs.Nexts.{GoesTo, IsAt}
use Rattle.claim_rule.proofs.Stamping.{tag_in, free_same}
use Rattle.claim_rule.proofs.Tables.{Alike, node_number, node_written, word_again, homes_same, stamped_alike, alike_written}
use Rattle.claim_rule.proofs.Moves.{sound, on, caller_at, counts, moves, my_stamps, journal_stays}
use Rattle.claim_rule.proofs.NextsLemmas.{Goes, tags_count, turns_same, allowed}
use Rattle.claim_rule.proofs.SeatsLemmas.{set_back}

-- the cell that a caller tries next is one of the area, or an amoebot's that is there
pub is_placed : (g : Setup) (ok : IsSetup g) (s : State) (sound : Sound g s) (c : ℕ) (k : Caller) → slice_get s.callers c ≡ Some k → k.phase ≡ Claim → (n : CellName) → next_of g (bot g c k.turn) k.held ≡ Some n → (i : ℕ) × IsPlaced g n i
is_placed g ok s sound c k there p n nx =
    let same : (front g ok s sound c k there p).0 ≡ n = same_Some _ n (sym (next_is_there g ok s sound c k there p) ∙ nx) in
    let is = placed g ok s sound c k there p in
    (is.0, (ap (number g.world.area) (sym same) ∙ is.1, omega (arith, is.2, (tags_count g ok s sound).1)))

-- a caller's tag is at most 2^32
pub tag_small : (g : Setup) → IsSetup g → (c t : ℕ) → c < length g.lists.ids → t < g.lists.turns → own_tag g c t < 2 ^ 33
tag_small g ok c t known lt = let b = own_small g ok c t known in let u = turn_small g ok c t known lt in let callers = ok.lists.few.at_most_16 in omega (arith, known, b, u, callers)

module _ {D : Type 0} {verdict : D → Shown → Verdict} {z : Terms D} {s : Content D} {core : State} {seat : ℕ} {r : Record} (table : IsAt verdict z by_journal s core seat r) where
  abbrev g : Setup
  g = setup_of_terms verdict z

  abbrev is : CallerOk g core (sound table).last r.number r.caller
  is = (sound table).each r.number r.caller (caller_at table)

  module _ (i slots : ℕ) (carried : List (ℕ × Slot)) (v : Node) (phase : r.caller.phase ≡ Claim) (next_node : next_of g (bot g r.number r.caller.turn) r.caller.held ≡ Some (name.Spot v)) (at_i : IsPlaced g (name.Spot v) i) where
    abbrev n : CellName
    n = name.Spot v

    abbrev b : ℕ
    b = bot g r.number r.caller.turn

    abbrev w : ℕ
    w = slice_index s.words i

    abbrev t : ℕ
    t = own_tag g r.number r.caller.turn

    in_nodes : i < first_slotted by_journal z.world
    in_nodes = node_number g v i at_i.0

    inside : i < length core.tags
    inside = omega (arith, at_i.1, (counts table).0)

    in_words : i < length s.words
    in_words = omega (arith, at_i.1, table.stands.words.count)

    node : IsNodeWord core i w
    node = table.stands.words.node i in_nodes

    found_tag : at core.tags (number z.world.area n) ≡ Some (word_tag w)
    found_tag = ap (at core.tags) at_i.0 ∙ slice_get-get_or core.tags i 0 inside ∙ ap (λ (m : ℕ). Some m) (sym node.tag)

    claims_it : next g r.number core ≡ claims g r.number core r.caller n (word_tag w)
    claims_it = ap (acts g r.number core) (caller_at table) ∙ ap (by_phase g r.number core r.caller) phase ∙ ap (tries g r.number core r.caller) next_node ∙ ap (finds g r.number core r.caller n) found_tag

    unmarked : length r.caller.marks ≡ r.caller.turn
    unmarked = is.counted ∙ ap (λ q. marked q r.caller.turn) phase

    known : r.number < length g.lists.ids
    known = is_known g table.run core (sound table) r.number r.caller (caller_at table)

    small : t < 2 ^ 33
    small = tag_small g table.run r.number r.caller.turn known (subst (λ q. Rattle.claim_core.specs.Soundness.IsTurn g.lists.turns q r.caller.turn) phase is.turn)

    -- the stamp is few
    few_stamps : word_stamp w ≤ most_turns
    few_stamps = let a = node.stamp in let b = table.stands.few in omega (arith, a, b)

    -- the word is as it was: what records say of words stays
    again : (q : Record) → IsStamped g s.words q → IsStamped g (set s.words i w) q
    again q = stamped_alike g s.words (set s.words i w) (alike_written g s.words i w in_words (refl, refl)) q

    -- another's tag was found
    pub others : word_tag w ≢ 0 → IsOthers g r.number (word_tag w)
    others held =
        let by = refused_by g table.run core (sound table) r.number r.caller (caller_at table) n (word_tag w) (before g table.run core (sound table) r.number r.caller (caller_at table) n phase next_node) found_tag held in
        record { some = held; listed = by.listed; other = by.other; turn = by.turn; of = by.of }

    pub stands_refused : word_tag w ≢ 0 → Rattle.claim_rule.specs.Stands.Stands verdict z by_journal (record { words = set s.words i w; homes = s.homes; views = set s.views seat (view_of z (refused_at r v (word_tag w) ∷ [])) }) (next g r.number core)
    stands_refused held = moves table new (next g r.number core) (on table) k' r.won None (set s.words i w) s.homes leads refl refl refl fewer words homes (λ q apart rec st. again q st) mine
      where
        k' : Caller
        k' = record r.caller { phase = Refusing n (word_tag w) }

        new : State
        new = with_caller g core r.number k'

        leads : new ≡ next g r.number core
        leads = sym (claims_it ∙ ap (λ e. if e then wins g r.number core r.caller n (at core.values (number z.world.area n)) else new) (ne_eqb (word_tag w) 0 held))

        fewer : turns_left g new ≤ turns_left g core
        fewer = turns_same g core new r.number r.caller k' (caller_at table) refl refl

        words : AreWords by_journal g new (set s.words i w)
        words = word_again by_journal g core new s.words i table.stands.words (omega (arith, at_i.1)) refl refl refl refl

        homes : AreHomes by_journal g new s.homes
        homes = homes_same by_journal g core new s.homes table.stands.homes (λ k le. refl) refl refl (journal_stays g core new refl fewer)

        mine : IsStamped g (set s.words i w) (record r { caller = k'; won = r.won; note = None })
        mine = record { won = (again r (my_stamps table)).won; noted = λ m e. absurd (none-some m e) }

    -- a free word was found, and is noted
    pub stands_noted : Rattle.claim_rule.specs.Stands.Stands verdict z by_journal (record { words = set s.words i w; homes = s.homes; views = set s.views seat (view_of z (with_note r (Some (note_of v w)) ∷ [])) }) core
    stands_noted = moves table core core (sound table) r.caller r.won (Some (note_of v w)) (set s.words i w) s.homes refl same_callers refl refl (omega arith)
        (word_again by_journal g core core s.words i table.stands.words (omega (arith, at_i.1)) refl refl refl refl) table.stands.homes (λ q apart rec st. again q st) mine
      where
        same_callers : core.callers ≡ set core.callers r.number r.caller
        same_callers = sym (set_back core.callers r.number r.caller r.caller (caller_at table)) ∙ set-set core.callers r.number r.caller r.caller

        is_i : (k : ℕ) → number g.world.area n ≡ Some k → slice_index (set s.words i w) k ≡ w
        is_i k e = subst (λ j. get_or (set s.words i w) j 0 ≡ w) (same_Some i k (sym at_i.0 ∙ e)) (get_or-set_same s.words i w 0 in_words)

        noted : IsNoted g (set s.words i w) (note_of v w)
        noted = record {
          least = λ k e. let q = ap word_stamp (is_i k e) in omega (arith, q);
          same = λ k e q. ap word_occ (is_i k e);
        }

        mine : IsStamped g (set s.words i w) (record r { note = Some (note_of v w) })
        mine = record { won = (again r (my_stamps table)).won; noted = λ m e. subst (IsNoted g (set s.words i w)) (same_Some (note_of v w) m e) noted }

    -- the noted word was found, and the node is won
    module _ (note : Note) (of : note.node ≡ v) (free : word_tag w ≡ 0) (occ : word_occ w ≡ note.occ) (stamp : word_stamp w ≡ note.stamp) where
      abbrev x : Cell
      x = cell.Spot note.occ

      abbrev k' : Caller
      k' = caller_with_cell g r.number r.caller n x

      abbrev new : State
      new = wins g r.number core r.caller n (Some x)

      abbrev put : ℕ
      put = w + t

      tag_free : cell_tag core i ≡ 0
      tag_free = sym node.tag ∙ free

      found_free : at core.tags (number z.world.area n) ≡ Some 0
      found_free = found_tag ∙ ap (λ (m : ℕ). Some m) free

      value : at core.values (number z.world.area n) ≡ Some x
      value = ap (at core.values) at_i.0 ∙ node.free tag_free ∙ ap (λ o. Some (cell.Spot o)) occ

      leads : new ≡ next g r.number core
      leads = sym (claims_it ∙ ap (λ e. if e then wins g r.number core r.caller n (at core.values (number z.world.area n)) else with_caller g core r.number (record r.caller { phase = Refusing n (word_tag w) })) (eq-eqb (word_tag w) 0 free) ∙ ap (wins g r.number core r.caller n) value)

      tags : new.tags ≡ set core.tags i t
      tags = λ j. put_at core.tags (at_i.0 j) t

      fewer : turns_left g new ≤ turns_left g core
      fewer = turns_same g core new r.number r.caller k' (caller_at table) refl refl

      says : (word_tag put ≡ t) × (word_occ put ≡ word_occ w) × (word_stamp put ≡ word_stamp w)
      says = tag_in w t free small

      here : IsNodeWord new i put
      here =
          let tag_now : cell_tag new i ≡ t = ap (λ ts. slice_index ts i) tags ∙ get_or-set_same core.tags i t 0 inside in
          record {
            tag = says.0 ∙ sym tag_now;
            free = λ none. absurd (tag-positive r.number r.caller.turn b (sym tag_now ∙ none));
            stamp = (let a = says.2 in let c = node.stamp in omega (arith, a, c));
          }

      words : AreWords by_journal g new (set s.words i put)
      words = node_written by_journal g core new s.words i t put table.stands.words in_nodes inside tags refl refl refl here

      homes : AreHomes by_journal g new s.homes
      homes = homes_same by_journal g core new s.homes table.stands.homes (λ k le. ap (λ ts. slice_get ts k) tags ∙ get-set_else core.tags i k t (λ e. omega (arith, e, le, in_nodes))) refl refl (journal_stays g core new refl fewer)

      alike : (k : ℕ) → k < first_slotted by_journal z.world → Alike (slice_index s.words k) (slice_index (set s.words i put) k)
      alike = alike_written g s.words i put in_words (says.1, says.2)

      still : (q : Record) → IsStamped g s.words q → IsStamped g (set s.words i put) q
      still q = stamped_alike g s.words (set s.words i put) alike q

      at_here : (k : ℕ) → number g.world.area n ≡ Some k → slice_index (set s.words i put) k ≡ put
      at_here k e = subst (λ j. get_or (set s.words i put) j 0 ≡ put) (same_Some i k (sym at_i.0 ∙ e)) (get_or-set_same s.words i put 0 in_words)

      is_won : IsWon g (set s.words i put) r.caller.turn r.caller.marks v x note
      is_won = record {
        node = of;
        occ = λ k e. ap word_occ (at_here k e) ∙ says.1 ∙ occ;
        stamp = λ k e. ap word_stamp (at_here k e) ∙ says.2 ∙ stamp;
        settled = λ m e. let lt = slice_get_within r.caller.marks r.caller.turn m e in absurd (omega (arith, lt, unmarked));
        value = inl refl;
      }

      mine_now : IsStamped g (set s.words i put) (record r { caller = k'; won = note ∷ r.won; note = None })
      mine_now = record { won = (note, r.won, refl, is_won, (still r (my_stamps table)).won); noted = λ m e. absurd (none-some m e) }

      pub stands_won : Rattle.claim_rule.specs.Stands.Stands verdict z by_journal (record { words = set s.words i put; homes = s.homes; views = set s.views seat (view_of z (record r { caller = k'; won = note ∷ r.won; note = None } ∷ [])) }) (next g r.number core)
      stands_won = moves table new (next g r.number core) (on table) k' (note ∷ r.won) None (set s.words i put) s.homes leads refl refl refl fewer words homes (λ q apart rec st. still q st) mine_now

      now_sound : Sound g new
      now_sound = subst (Sound g) (sym leads) (one_step g table.run core (sound table) r.number)

      now_there : slice_get new.callers r.number ≡ Some k'
      now_there = get-set_here core.callers r.number k' (slice_get_within core.callers r.number r.caller (caller_at table))

      pub known_now : IsKnown g b ((n, x) ∷ r.caller.held)
      known_now = record {
        order = won_in_order g table.run core (sound table) r.number r.caller (caller_at table) n x phase next_node found_free value;
        few = omega (arith, few g table.run core (sound table) r.number r.caller (caller_at table) phase);
        placed = λ m e. is_placed g table.run new now_sound r.number k' now_there (ap (after_win g b ((n, x) ∷ r.caller.held)) e) m e;
        shown = won_shown g table.run core (sound table) r.number r.caller (caller_at table) n x phase next_node found_free value;
      }

  -- a load
  module _ (i slots : ℕ) (carried : List (ℕ × Slot)) (to : IsToTryNode verdict i (view_of z (r ∷ []))) where
    abbrev found : ℕ
    found = slice_index s.words i

    abbrev tells : ℕ → Seated D → Type 0
    tells = LooksAt verdict (step slots i 0 0 home.none) (view_of z (r ∷ []), carried)

    pub look_stops : word_tag found ≢ 0 → GoesTo verdict z by_journal s (next g r.number core) i seat (view_of z (r ∷ []), carried) tells found
    look_stops held = (
      view_of z (refused_at r to.node (word_tag found) ∷ []),
      keeps,
      tt,
      stands_refused i slots carried to.node to.phase to.next to.placed held,
      ((λ free. absurd (held free)), λ _. record { node = to.node; next = to.next; now = refl; out = refl; other = others i slots carried to.node to.phase to.next to.placed held }),
    )

    pub look_notes : word_tag found ≡ 0 → GoesTo verdict z by_journal s core i seat (view_of z (r ∷ []), carried) tells found
    look_notes free = (
      view_of z (with_note r (Some (note_of to.node found)) ∷ []),
      keeps,
      tt,
      stands_noted i slots carried to.node to.phase to.next to.placed,
      ((λ _. record { node = to.node; next = to.next; now = refl; out = refl; few = few_stamps i slots carried to.node to.phase to.next to.placed }), λ held. absurd (held free)),
    )

  -- a try
  module _ (i old put slots : ℕ) (carried : List (ℕ × Slot)) (to : IsToWin verdict i old put (view_of z (r ∷ []))) where
    abbrev there : ℕ
    there = slice_index s.words i

    abbrev told : ℕ → Seated D → Type 0
    told = TriesNode verdict (step slots i old put home.none) (view_of z (r ∷ []), carried)

    abbrev v' : Node
    v' = to.tries.node

    pub try_wins : there ≡ old → GoesTo verdict z by_journal s (next g r.number core) i seat (view_of z (r ∷ []), carried) told put
    try_wins hit = subst (λ q. GoesTo verdict z by_journal s (next g r.number core) i seat (view_of z (r ∷ []), carried) told q) (ap (λ q. q + own_tag g r.number r.caller.turn) hit ∙ sym to.put) (
      view_of z (with_node g r to.note ∷ []),
      keeps,
      tt,
      subst (λ q. Rattle.claim_rule.specs.Stands.Stands verdict z by_journal (record { words = set s.words i (there + own_tag g r.number r.caller.turn); homes = s.homes; views = set s.views seat (view_of z (record r { caller = caller_with_cell g r.number r.caller (name.Spot q) (cell.Spot to.note.occ); won = to.note ∷ r.won; note = None } ∷ [])) }) (next g r.number core)) (sym to.of)
          (stands_won i slots carried v' to.tries.phase to.tries.next to.tries.placed to.note to.of free occ stamp),
      (
        (λ _. record { note = to.note; noted = to.noted; now = refl; out = refl; known = subst (λ q. IsKnown g (bot g r.number r.caller.turn) ((name.Spot q, cell.Spot to.note.occ) ∷ r.caller.held)) (sym to.of) (known_now i slots carried v' to.tries.phase to.tries.next to.tries.placed to.note to.of free occ stamp) }),
        (λ held. absurd (held free)),
        λ _ other. absurd (other hit),
      ),
    )
      where
        free : word_tag there ≡ 0
        free = ap word_tag hit ∙ to.found.0

        occ : word_occ there ≡ to.note.occ
        occ = ap word_occ hit ∙ to.found.1

        stamp : word_stamp there ≡ to.note.stamp
        stamp = ap word_stamp hit ∙ to.found.2

    pub try_stops : word_tag there ≢ 0 → GoesTo verdict z by_journal s (next g r.number core) i seat (view_of z (r ∷ []), carried) told there
    try_stops held = (
      view_of z (refused_at r v' (word_tag there) ∷ []),
      keeps,
      tt,
      stands_refused i slots carried v' to.tries.phase to.tries.next to.tries.placed held,
      ((λ hit. absurd (held (ap word_tag hit ∙ to.found.0))), (λ _. record { node = v'; next = to.tries.next; now = refl; out = refl; other = others i slots carried v' to.tries.phase to.tries.next to.tries.placed held }), λ free other. absurd (held free)),
    )

    -- the noted stamp is smaller
    greater : word_tag there ≡ 0 → there ≢ old → word_stamp old < word_stamp there
    greater free other =
        let noted = (my_stamps table).noted to.note to.noted in
        let at_i : number g.world.area (name.Spot to.note.node) ≡ Some i = ap (λ q. number g.world.area (name.Spot q)) to.of ∙ to.tries.placed.0 in
        let least = noted.least i at_i in
        let apart : word_stamp there ≢ to.note.stamp = λ e. other (free_same there old free to.found.0 (noted.same i at_i e ∙ sym to.found.1) (e ∙ sym to.found.2)) in
        elim (cases_eq (word_stamp there) to.note.stamp) [
          | inl e ↦ absurd (apart e)
          | inr ne ↦ (let q = to.found.2 in omega (arith, least, q, ne))
        ]

    pub try_notes : word_tag there ≡ 0 → there ≢ old → GoesTo verdict z by_journal s core i seat (view_of z (r ∷ []), carried) told there
    try_notes free other = (
      view_of z (with_note r (Some (note_of v' there)) ∷ []),
      keeps,
      tt,
      stands_noted i slots carried v' to.tries.phase to.tries.next to.tries.placed,
      ((λ hit. absurd (other hit)), (λ held. absurd (held free)), λ _ _. (record { node = v'; next = to.tries.next; now = refl; out = refl; few = few_stamps i slots carried v' to.tries.phase to.tries.next to.tries.placed }, greater free other)),
    )

module _ {D : Type 0} (verdict : D → Shown → Verdict) (z : Terms D) (ok : IsSetup (setup_of_terms verdict z)) where
  look_by_journal : (slots seat : ℕ) (me : Seated D) (i : ℕ) → me.0 ≡ view_of z (own me.0 ∷ []) → IsToTryNode verdict i me.0 → Allows (KeepsRule verdict z by_journal) slots seat me i (λ x. x) (LooksAt verdict (step slots i 0 0 home.none) me)
  look_by_journal slots seat me i one to =
      allowed verdict z by_journal ok slots seat me i (λ x. x) (λ m. IsToTryNode verdict i m.0) (LooksAt verdict (step slots i 0 0 home.none)) one to
      (λ s core r table fact. elim (cases_eq (word_tag (slice_index s.words i)) 0) [
        | inl free ↦ inr (look_notes table i slots me.1 fact free)
        | inr held ↦ inl (look_stops table i slots me.1 fact held)
      ])

  try_by_journal : (slots seat : ℕ) (me : Seated D) (i old put : ℕ) → me.0 ≡ view_of z (own me.0 ∷ []) → IsToWin verdict i old put me.0 → Allows (KeepsRule verdict z by_journal) slots seat me i (λ x. either (eqb x old) put x) (TriesNode verdict (step slots i old put home.none) me)
  try_by_journal slots seat me i old put one to =
      allowed verdict z by_journal ok slots seat me i (λ x. either (eqb x old) put x) (λ m. IsToWin verdict i old put m.0) (TriesNode verdict (step slots i old put home.none)) one to
      (λ s core r table fact. exchanged (slice_index s.words i) old put (λ q. Goes verdict z by_journal ok s core r.number i seat (view_of z (r ∷ []), me.1) (TriesNode verdict (step slots i old put home.none) (view_of z (r ∷ []), me.1)) q)
      (λ hit. inl (try_wins table i old put slots me.1 fact hit))
      (λ other. elim (cases_eq (word_tag (slice_index s.words i)) 0) [
        | inl free ↦ inr (try_notes table i old put slots me.1 fact free other)
        | inr held ↦ inl (try_stops table i old put slots me.1 fact held)
      ]))

  -- so they are allowed where nodes have words
  pub look_allowed : (way : CommitWay) → way ≡ by_journal → (slots seat : ℕ) (me : Seated D) (i : ℕ) → me.0 ≡ view_of z (own me.0 ∷ []) → IsToTryNode verdict i me.0 → Allows (KeepsRule verdict z way) slots seat me i (λ x. x) (LooksAt verdict (step slots i 0 0 home.none) me)
  look_allowed way words slots seat me i one to = subst (λ w. Allows (KeepsRule verdict z w) slots seat me i (λ x. x) (LooksAt verdict (step slots i 0 0 home.none) me)) (sym words) (look_by_journal slots seat me i one to)

  pub try_allowed : (way : CommitWay) → way ≡ by_journal → (slots seat : ℕ) (me : Seated D) (i old put : ℕ) → me.0 ≡ view_of z (own me.0 ∷ []) → IsToWin verdict i old put me.0 → Allows (KeepsRule verdict z way) slots seat me i (λ x. either (eqb x old) put x) (TriesNode verdict (step slots i old put home.none) me)
  try_allowed way words slots seat me i old put one to = subst (λ w. Allows (KeepsRule verdict z w) slots seat me i (λ x. either (eqb x old) put x) (TriesNode verdict (step slots i old put home.none) me)) (sym words) (try_by_journal slots seat me i old put one to)
