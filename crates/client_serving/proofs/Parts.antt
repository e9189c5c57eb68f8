-- What changes the tokens alone changes no other part of a client that serves.
use Rattle.std.proofs.Common.{◌≡◌, List, [], ◌∷◌, refl, ap, ◌∙◌}
use Rattle.std.specs.Prelude.{fold}
use Rattle.client_serving.specs.declared.serving.Serving.{Serving}
use Rattle.client_serving.specs.Flights.{keep_row, notes_settled, settle_rows}
use Rattle.client_serving.specs.Follow.{evict, evicts, note_clean}
use Rattle.coop_cache.specs.CacheState.{CacheState}
use Rattle.coop_cache.specs.declared.output.Out as cache_out
use Rattle.coop_cache.specs.declared.output.Out.TheVariants.{Victim}
use Rattle.coop_cache.specs.Transition.{cache_clean}
use Rattle.token_client.specs.Settling.{note_row}
use Rattle.token_client.specs.State.{TokensState}
use Rattle.token_client.specs.Transition.{on_evict, on_settled}
use Rattle.xfs_base.specs.declared.block.BlockId.{BlockId}
use Rattle.xfs_base.specs.declared.entry.Entry.{Entry}

evicts_all : (s : Serving) (outs : List cache_out.Out) → record s { tokens = fold evict s.tokens outs } ≡ fold evicts s outs
unfolding evicts evict
evicts_all s [] = refl
evicts_all s (Victim block ∷ outs) = evicts_all (record s { tokens = (on_evict s.tokens block).state }) outs

settles_all : (s : Serving) (rows : List (BlockId × Entry)) → record s { tokens = fold note_row s.tokens rows } ≡ fold notes_settled s rows
unfolding notes_settled note_row
settles_all s [] = refl
settles_all s (row ∷ rows) = settles_all (record s { tokens = (on_settled s.tokens row.0 row.1.ver).state }) rows

-- a clean block goes into the cache, and the tokens let go of what leaves it
pub cache_clean_so : (s : Serving) (block : BlockId) (t : TokensState) (c : CacheState) (outs : List cache_out.Out) → c ≡ (cache_clean s.cache block).state
    → outs ≡ (cache_clean s.cache block).outs → t ≡ fold evict s.tokens outs → record s { tokens = t; cache = c } ≡ note_clean s block
unfolding note_clean
cache_clean_so s block t c outs kept gone left =
    ap (λ u. record s { tokens = u; cache = c }) (left ∙ ap (fold evict s.tokens) gone)
    ∙ ap (λ k. record s { tokens = fold evict s.tokens (cache_clean s.cache block).outs; cache = k }) kept
    ∙ evicts_all (record s { cache = (cache_clean s.cache block).state }) (cache_clean s.cache block).outs

-- the tokens hear of rows that are settled, and then clean blocks go into the cache
pub settled_so : (s t : Serving) (tokens : TokensState) (rows : List (BlockId × Entry)) → tokens ≡ fold note_row s.tokens rows
    → t ≡ fold keep_row (record s { tokens = tokens }) rows → t ≡ settle_rows s rows
settled_so s t tokens rows heard kept =
    kept ∙ ap (λ k. fold keep_row k rows) (ap (λ u. record s { tokens = u }) heard ∙ settles_all s rows)
