-- The maps that the registry hands out have the slots in order, each as the registry has it.
use Rattle.std.proofs.Common.{◌≡◌, ℕ, ◌<◌, refl, ap, ◌∙◌, Some, arith, slice_get}
use Rattle.std.proofs.lemmas.List.Elements.{All-from_recursion}
use Rattle.std.proofs.lemmas.List.FromFn.{length-map-range_with_len, get_or-map-range_with_len}
use Rattle.std.proofs.lemmas.Option.{slice_get-get_or}
use Rattle.registry.specs.Board.{slot_news, board_slots}
use Rattle.registry.specs.BoardState.{BoardState}
use Rattle.registry.specs.Slots.{all_slots, entry_of}
use Rattle.registry_node.specs.Events.{news_of}
use Rattle.xfs_base.specs.declared.news.SlotNews.{SlotNews}
use Rattle.xfs_base.proofs.Alls.{all_map}
use Rattle.node_slots.specs.node_tie.RegistryEvents.{manager_in, SlotTells, NewsTell, NewsAre}
use Rattle.headline.specs.Indexes.{epoch_in}

module _ (part : ℕ) (below : part < 8) (b : BoardState) where
  slot_tells : (slot : ℕ) → SlotTells part (epoch_in b part) (manager_in b part) (slot_news b slot)
  slot_tells slot same = (ap (λ (s : ℕ). (entry_of b.entries s).epoch) same, ap (λ (s : ℕ). (entry_of b.entries s).manager) same)

  news_at : slice_get (board_slots b) part ≡ Some (slot_news b part)
  news_at =
      slice_get-get_or (board_slots b) part (slot_news b part) (omega (arith, length-map-range_with_len (slot_news b) 0 8))
      ∙ ap (λ (s : SlotNews). Some s) (get_or-map-range_with_len (slot_news b) 0 8 part part (slot_news b part) below (omega arith))

  pub news_tell : NewsTell part (epoch_in b part) (manager_in b part) (news_of b)
  news_tell = record {
    in_order = refl;
    here = (slot_news b part, news_at, refl, refl, refl);
    each =
        All-from_recursion (SlotTells part (epoch_in b part) (manager_in b part)) (board_slots b)
        (all_map (SlotTells part (epoch_in b part) (manager_in b part)) (slot_news b) slot_tells all_slots);
  }

  pub news_are : NewsAre part b (news_of b)
  news_are = record { whole = refl; tell = news_tell }
