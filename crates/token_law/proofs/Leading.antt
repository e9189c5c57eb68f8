-- Of a dirty block the settled version is the join, and all above it is its owner's: read off how the block is seen in the abstract token protocol.
use Rattle.std.proofs.Common.{◌≡◌, ℕ, suc, ◌≤◌, true, length, Some, slice_get, sym, ap, subst, ◌∙◌, arith}
use Rattle.std.proofs.lemmas.Bool.{ltb-true}
use Rattle.std.proofs.lemmas.Option.{slice_get_within}
use Rattle.act_tie.proofs.Legality.{are_shown}
use Rattle.act_tie.specs.BlockActs.{acts_of}
use Rattle.act_tie.specs.Shown.{HistoryShown}
use Rattle.token_client.specs.Held.{is_dirty}
use Rattle.token_client.specs.State.{held_of}
use Rattle.token_law.proofs.Apart.{falls_kept}
use Rattle.token_law.proofs.ClientViews.{shown_up}
use Rattle.token_law.proofs.Laws.{acts_are_legal, seen}
use Rattle.token_law.proofs.Views.{View}
use Rattle.token_law.specs.Laws.{DirtyBlocksLead, IsClient, IsGreatestFiled, Leads, Moment, versions_of}
use Rattle.token_law.specs.Net.{Net}
use Rattle.token_protocol.proofs.Invariant.{Invariant, always as invariant}
use Rattle.token_protocol.proofs.Laws.{dirty_leads, holders_newest, join_is_join}
use Rattle.token_protocol.proofs.Told.{Matches, acts_match}
use Rattle.token_protocol.specs.Acts.{history}
use Rattle.token_protocol.specs.Entry as abstract
use Rattle.token_protocol.specs.Laws as block
use Rattle.token_protocol.specs.World.{World}
use Rattle.version_model.specs.declared.history.Version.{Version}
use Rattle.version_model.specs.Effects.{history_after}
use Rattle.version_model.specs.History.{nothing_yet}
use Rattle.xfs_base.specs.declared.block.BlockId.{BlockId}

module _ (members part : ℕ) (n : Net) (b : BlockId) (m : Moment true members part n b) (c : ℕ) (fact : IsClient members c) (up : n.up c ≡ true)
    (dirty : is_dirty (held_of (n.tokens c).blocks b) ≡ true) where
  abbrev v : View true members part b n
  v = seen true members part n b m c fact

  abbrev w : World
  w = v.world

  whole : Invariant w
  whole = invariant members w v.steps

  abbrev settled : ℕ
  settled = (held_of (n.tokens c).blocks b).settled

  abbrev version : ℕ
  version = (held_of (n.tokens c).blocks b).ver

  is_settled : (w.client c).settled ≡ settled
  is_settled = (shown_up true members part b n v c fact.some fact.within up).settled

  is_version : (w.client c).version ≡ version
  is_version = (shown_up true members part b n v c fact.some fact.within up).version

  leads : block.Leads w c
  leads = dirty_leads w whole c (let less = ltb-true settled version dirty in let s = is_settled in let x = is_version in omega arith)

  -- the history of the block is the world's
  matches : Matches (history (acts_of b n.acts)) w
  matches = subst (λ acts. Matches (history acts) w) v.acts (acts_match members w v.steps)

  shown : HistoryShown b (history_after n.acts nothing_yet) (history (acts_of b n.acts))
  shown = are_shown n.acts (falls_kept true members part n m.run).apart b (acts_are_legal members part n b m)

  greatest : IsGreatestFiled n b settled
  greatest =
      let join = join_is_join w whole in
      let same = leads.settled in
      let its = is_settled in
      let row : (l q : ℕ) → (w.rows l q).version ≡ _ = λ l q. ap (λ (r : abstract.Row). r.version) (v.kept.says l q) in
      record {
        upper = λ l q filed. let end = v.kept.ends l in let one = row l q in let limit = join.upper l q (omega arith) in omega arith;
        log = w.join_log;
        seq = w.join_segment;
        filed = λ some. let end = v.kept.ends w.join_log in let at = (join.attained (omega arith)).1 in omega arith;
        attained = λ some. let one = row w.join_log w.join_segment in let at = (join.attained (omega arith)).0 in omega arith;
      }

  newest : version ≡ length (versions_of n b)
  newest =
      let owned = leads.owned in
      let held = (holders_newest w whole c (omega arith)).version in
      let its = is_version in
      let made = matches.length in
      let told = shown.newest in
      omega arith

  own : (place : ℕ) (x : Version) → slice_get (versions_of n b) place ≡ Some x → settled ≤ place → x.writer ≡ c
  own place x at above =
      let within = slice_get_within (versions_of n b) place x at in
      let made = matches.length in
      let told = shown.newest in
      let same = leads.settled in
      let its = is_settled in
      let mine = leads.mine (suc place) (omega arith) (omega arith) in
      sym (shown.writers place x at) ∙ matches.writers (suc place) ∙ mine

  lead : Leads n b c
  lead = record { settled = greatest; newest = newest; own = own }

pub dirty_blocks_lead : DirtyBlocksLead
dirty_blocks_lead members part n b m c fact up dirty = lead members part n b m c fact up dirty
