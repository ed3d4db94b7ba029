-- What is made of an entry as it is written, with one more cell.
use Rattle.std.proofs.Common.{◌≡◌, ◌++◌, ◌∷◌, [], length, map, ap, sym, ◌∙◌}
use Rattle.std.proofs.lemmas.List.{length-map, map-append}
use Rattle.amoebot_state.specs.declared.verdict.Entry.{Entry}
use Rattle.amoebot_state.specs.declared.verdict.PlainEntry.{PlainEntry}
use Rattle.amoebot_state.specs.Pairs.{Pairs, Triples, plain_triple}
use Rattle.journal_text.specs.Journals.{WrittenChange, WrittenEntry, full_change, entry_by, plain_by, with_changes}

module _ (w : WrittenEntry) where
  pub full_length : (e : Entry) → e ≡ entry_by w → length e.patch ≡ length w.changes
  full_length e is = ap (λ (e : Entry). length e.patch) is ∙ length-map w.changes full_change

  pub plain_length : (e : PlainEntry) → e ≡ plain_by w → length e.patch ≡ length w.changes
  plain_length e is =
      ap (λ (e : PlainEntry). length e.patch) is ∙ length-map (map full_change w.changes) plain_triple
      ∙ length-map w.changes full_change

  module _ (t : WrittenChange) where
    pub full_next : (e : Entry) → e ≡ entry_by w
        → record e { patch = e.patch ++ full_change t ∷ [] } ≡ entry_by (with_changes w (w.changes ++ t ∷ []))
    full_next e is =
        ap (λ (e : Entry). record e { patch = e.patch ++ full_change t ∷ [] }) is
        ∙ ap (λ (ts : Triples). record (entry_by w) { patch = ts })
        (sym (map-append full_change w.changes (t ∷ [])))

    pub plain_next : (e : PlainEntry) → e ≡ plain_by w
        → record e { patch = e.patch ++ (t.0, t.2) ∷ [] } ≡ plain_by (with_changes w (w.changes ++ t ∷ []))
    plain_next e is =
        ap (λ (e : PlainEntry). record e { patch = e.patch ++ (t.0, t.2) ∷ [] }) is
        ∙ ap (λ (ps : Pairs). record (plain_by w) { patch = ps })
        (sym (ap (map plain_triple) (map-append full_change w.changes (t ∷ []))
        ∙ map-append plain_triple (map full_change w.changes) (full_change t ∷ [])))
