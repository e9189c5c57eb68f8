-- Once the log of an owner that serves has filed one more segment, of which its feed is told, it stands as before.
use Rattle.std.proofs.Common.{◌≡◌, ◌≤◌, ◌<◌, ◌==◌, ℕ, suc, cond, sym, ap, subst, ◌∙◌, arith}
use Rattle.std.proofs.lemmas.Bool.Decides.{nat_tests}
use Rattle.client_log.specs.LogState.{LogState}
use Rattle.client_log.specs.Transition.{end_of}
use Rattle.delta_feed.specs.FeedState.{FeedState}
use Rattle.delta_feed.specs.Transition.{settled}
use Rattle.headline.specs.Filed.{Filed, Texts}
use Rattle.index_tie.specs.Growth.{with_segment}
use Rattle.index_tie.specs.Net.{Net}
use Rattle.index_tie.proofs.Tables.{at_same, first_of}
use Rattle.node_slots.specs.node_index_tie.OwnerEvents.{FeedSeen}
use Rattle.node_slots.specs.node_index_tie.Sight.{RowsFit}
use Rattle.node_slots.proofs.node_index_tie.Feeding.{feeds_grow}
use Rattle.segment_format.specs.Rows.{rows_of}
use Rattle.segment_format.specs.declared.segment.Segment.{Segment}
use Rattle.xfs_base.specs.Limits.{u32_end}
use Rattle.xfs_base.specs.declared.segment.End.{End}
use Rattle.xfs_base.specs.declared.segment.SegName.{SegName}
use Rattle.node_slots.specs.owner_index_tie.Filing.{filing, with_name, FilesNext}
use Rattle.node_slots.specs.owner_index_tie.Owners.{LogNext}
use Rattle.node_slots.proofs.owner_index_tie.Standing.{Stands}

module _ (l : ℕ) (f : Filed) (s : Segment) where
  pub head_is : (with_segment f l s).head l ≡ suc (f.head l)
  head_is = at_same l (suc (f.head l)) (f.head l)

  pub segment_is : (with_segment f l s).segment l (suc (f.head l)) ≡ s
  segment_is = at_same l (cond (suc (f.head l) == suc (f.head l)) s (f.segment l (suc (f.head l)))) (f.segment l (suc (f.head l)))
      ∙ at_same (suc (f.head l)) s (f.segment l (suc (f.head l)))

-- a name that is next files its text
pub next_files : (texts : Texts) (l : ℕ) (f : Filed) (name : SegName) → name.seq ≡ suc (f.head l) → with_name texts l f name ≡ with_segment f l (texts name)
next_files texts l f name next = first_of (name.seq == suc (f.head l)) (with_segment f l (texts name)) f
    (let e = next in grind (arith, nat_tests, e))

module _ (part : ℕ) (texts : Texts) (n : Net) (l since : ℕ) (f : Filed) (number : ℕ) (later : LogState) (feed : FeedState) (s : Segment) where
  -- whatever end it had
  pub grown : since ≤ f.head l → number ≡ l → FeedSeen part (filing n f) l feed → RowsFit (rows_of s) → suc (f.head l) < u32_end → LogNext l later
      → later.end ≡ end_of s
      → s.name.seq ≡ suc (f.head l) → Stands part n l since (with_segment f l s) number later (settled feed s.name.seq (rows_of s))
  grown from fact fed fits short next end seq = record {
    late = let a = from in let b = head_is l f s in omega arith;
    seen = record {
      number_is = fact;
      log = next;
      end = record {
        seq = ap (λ (e : End). e.seq) end ∙ seq ∙ sym (head_is l f s);
        pass = λ some. ap (λ (e : End). e.pass) end ∙ ap (λ (x : Segment). x.name.pass) (sym (segment_is l f s))
            ∙ ap (λ q. ((with_segment f l s).segment l q).name.pass) (sym (head_is l f s));
      };
      feed = subst (λ q. FeedSeen part (filing n (with_segment f l s)) l (settled feed q (rows_of s))) (sym seq)
          ((feeds_grow part (filing n f) l feed fed).own s fits short);
    };
  }

  pub filed_stands : (New : Filed → Segment → Type 0) (log : LogState) (name : SegName) → Stands part n l since f number log feed → name.seq ≡ suc (f.head l)
      → texts name ≡ s
      → FilesNext New texts l f name → LogNext l later → later.end ≡ end_of s → s.name.seq ≡ suc (f.head l)
      → Stands part n l since (with_name texts l f name) number later (settled feed s.name.seq (rows_of s))
  filed_stands New log name h at text owed next end seq =
      subst (λ g. Stands part n l since g number later (settled feed s.name.seq (rows_of s)))
      (sym (next_files texts l f name at ∙ ap (with_segment f l) text))
      (grown h.late h.seen.number_is h.seen.feed (subst (λ (x : Segment). RowsFit (rows_of x)) text owed.fits) owed.short next end seq)
