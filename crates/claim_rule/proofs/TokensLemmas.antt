-- What a field asks of its table: facts that contracts tell of the field, as the table has them.
use Rattle.std.proofs.Common.{◌≡◌, ℕ, ◌<◌, [], ◌∷◌, ap, sym, subst, ◌∙◌}
use Rattle.atomic_table.specs.Seated.{TableId}
use Rattle.claim_core.specs.Cells.{cells}
use Rattle.claim_rule.specs.declared.views.View.{View}
use Rattle.claim_rule.specs.Views.{own, view_of}
use Rattle.claim_rule.specs.Tokens.{FieldOf}

module _ {D : Type 0} {f now : FieldOf D} (seen : f ≡ now) where
  -- a seat of this table
  pub of_table : {t : TableId} → t ≡ now.table → t ≡ f.table
  of_table same = same ∙ ap (λ (q : FieldOf D). q.table) (sym seen)

  -- a seat with the record of one caller
  pub alone_of : {v : View D} → v ≡ view_of now.terms (own v ∷ []) → v ≡ view_of f.terms (own v ∷ [])
  alone_of {v} alone = alone ∙ ap (λ (q : FieldOf D). view_of q.terms (own v ∷ [])) (sym seen)

  -- a step on the journal's word, which is the one behind those of the cells
  pub on_journal : {t : TableId} {i : ℕ} (May : ℕ → Type 0) → t ≡ now.table → i < now.table.words → i ≡ cells now.terms.world → May (cells f.terms.world) → (t ≡ f.table) × (i < f.table.words) × May i
  on_journal {t} {i} May same word number may = (
    of_table same,
    subst (λ (q : FieldOf D). i < q.table.words) (sym seen) word,
    subst May (sym (number ∙ ap (λ (q : FieldOf D). cells q.terms.world) (sym seen))) may,
  )
