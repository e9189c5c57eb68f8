-- Each thing that happens in the small world keeps it seen.
use Rattle.std.proofs.Common.{ℕ, suc, Bool}
use Rattle.xfs_base.specs.declared.token.Mode.TheVariants.{Copy, Own}
use Rattle.token_client.specs.declared.input.In.TheVariants as input
use Rattle.token_client.specs.Laws.{IsSound}
use Rattle.token_client.specs.State.{tokens_start as fresh_tokens}
use Rattle.token_client.specs.Transition as client
use Rattle.token_client.proofs.AllInputs.{tokens_start-sound, transition-follows}
use Rattle.token_manager.specs.declared.input.In.TheVariants as told
use Rattle.token_manager.specs.Transition as slot
use Rattle.token_manager.proofs.Turns.{takes-transition}
use Rattle.token_protocol.specs.Premises.{Premise}
use Rattle.token_protocol.proofs.Refining.{put_each}
use Rattle.token_tie.specs.Inputs as laws
use Rattle.token_tie.proofs.ClientLaws.{takes_inputs}
use Rattle.version_model.specs.Falls.{FallsApart}
use Rattle.token_law.specs.Net.{Net, all_settled, Happens}
use Rattle.token_law.specs.Net.Happens.{Acts, Elsewhere, Reports, GetsCopy, GetsOwn, Declines, GetsRecall, GetsForward, GetsSupply, Fetches, Reads, Syncs, Seals, Files, GetsDeltas, GetsWant, GetsGave, Ticks, Crashes, Returns, SealsCopies, FilesCopies, Reopens, Activates, Says}
use Rattle.token_law.proofs.Premises.{owed_on}
use Rattle.token_law.proofs.Logged.{BooksWhole}
use Rattle.token_law.proofs.Apart.{FallsKept}
use Rattle.token_law.proofs.Views.{setting, report_view}
use Rattle.token_law.proofs.ClientViews.{crash_view, supply_view}
use Rattle.token_law.proofs.Settling.{settled_sound}
use Rattle.token_law.proofs.Filing.{seals_view, files_view, copies_view, filed_view, reopens_view}
use Rattle.token_law.proofs.Acting.{reads_view, syncs_view, says_view}
use Rattle.token_law.proofs.Standing.{on}
use Rattle.token_law.proofs.SlotEvents.{ran_put, slot_event, deltas_event, tick_event, activated_good, returned_view}
use Rattle.token_law.proofs.Taking.{Good, ready, client_good, transition_sound, acts_view, owns_view, declines_took, supply_brings, fetch_brings, other_took}

-- what is known beside of books and falls, where logs keep their word
pub record Sure (members : ℕ) (n : Net) : Type 0 where
  pub books : BooksWhole members n.books
  pub falls : FallsKept n.up n.acts

whole_books : (logs : Bool) (members : ℕ) (n : Net) → Premise logs (Sure members n) → Premise logs (BooksWhole members n.books)
whole_books logs members n sure = owed_on logs (Sure members n) (BooksWhole members n.books) (λ s. s.books) sure

pub keeps : (logs : Bool) (members part : ℕ) (n m : Net) → Happens logs members part n m → Premise logs (Sure members n) → Good logs members part n
    → Good logs members part m
keeps logs members part n m (Acts c end x serves own) sure i = record {
  sound = put_each (λ k x. IsSound x) n.tokens c (client.transition (n.tokens c) x).state (transition_sound logs members part n i c x) (λ k other. i.sound k);
  ran = i.ran;
  views = λ b inside. acts_view logs members part n i b (i.views b inside) c end x serves own;
}
keeps logs members part n m (Elsewhere c end x serves other) sure i =
    client_good logs members part n i c end (client.transition (n.tokens c) x) serves (transition_sound logs members part n i c x)
    (λ b inside v. other_took logs members part n i b inside v c end x serves other)
keeps logs members part n m (Reports c end serves) sure i = record {
  sound = i.sound;
  ran = i.ran;
  views = λ b inside. report_view logs members part b n (i.views b inside) c end serves.some serves.within serves.up serves.end_is (i.sound c) inside;
}
keeps logs members part n m (GetsCopy c end block stamp inc req entry serves fact) sure i =
    let x = input.Granted block stamp inc req Copy entry in
    client_good logs members part n i c end (client.transition (n.tokens c) x) serves (transition_sound logs members part n i c x)
    (λ b inside v. takes_inputs logs (setting b c (n.tokens c).inc) end v.world (n.tokens c) x (ready logs members part n i b v c end serves) (v.sent _ fact))
keeps logs members part n m (GetsOwn c end block stamp inc req entry value serves fact accepts room) sure i =
    let d = client.transition (n.tokens c) (input.Granted block stamp inc req Own entry) in
    let sound = (transition-follows (λ b. Unit {0}) d.state (transition_sound logs members part n i c (input.Granted block stamp inc req Own entry))
    (input.Wrote block value) (λ b h. tt)).sound in
    record {
      sound = put_each (λ k x. IsSound x) n.tokens c (laws.granted_and_wrote (n.tokens c) stamp inc req block entry value).state sound (λ k other. i.sound k);
      ran = i.ran;
      views = λ b inside. owns_view logs members part n i b (i.views b inside) c end block stamp inc req entry value serves fact accepts room;
    }
keeps logs members part n m (Declines c end block stamp inc req entry serves fact accepts) sure i =
    let d = client.transition (n.tokens c) (input.Granted block stamp inc req Own entry) in
    client_good logs members part n i c end (laws.granted_and_evicted (n.tokens c) stamp inc req block entry) serves
    (transition-follows (λ b. Unit {0}) d.state (transition_sound logs members part n i c (input.Granted block stamp inc req Own entry)) (input.Evict block)
    (λ b h. tt)).sound
    (λ b inside v. declines_took logs members part n i b v c end block stamp inc req entry serves (v.sent _ fact) accepts)
keeps logs members part n m (GetsRecall c end block stamp keep serves fact) sure i =
    let x = input.Recalled block stamp keep in
    client_good logs members part n i c end (client.transition (n.tokens c) x) serves (transition_sound logs members part n i c x)
    (λ b inside v. takes_inputs logs (setting b c (n.tokens c).inc) end v.world (n.tokens c) x (ready logs members part n i b v c end serves) (v.sent _ fact))
keeps logs members part n m (GetsForward c other block stamp inc req ver value pos less fact up serves held) sure i = record {
  sound = i.sound;
  ran = i.ran;
  views = λ b inside. supply_view logs members part b n (i.views b inside) c other block stamp inc req ver value pos less fact up serves held;
}
keeps logs members part n m (GetsSupply c end block stamp inc req ver value serves fact) sure i =
    let x = input.Supplied block stamp inc req ver value in
    client_good logs members part n i c end (client.transition (n.tokens c) x) serves (transition_sound logs members part n i c x)
    (λ b inside v. takes_inputs logs (setting b c (n.tokens c).inc) end v.world (n.tokens c) x (ready logs members part n i b v c end serves)
    (supply_brings logs members part n i b v c block stamp inc req ver value fact))
keeps logs members part n m (Fetches c end block value serves there) sure i =
    let x = input.Fetched block value in
    client_good logs members part n i c end (client.transition (n.tokens c) x) serves (transition_sound logs members part n i c x)
    (λ b inside v. takes_inputs logs (setting b c (n.tokens c).inc) end v.world (n.tokens c) x (ready logs members part n i b v c end serves)
    (fetch_brings logs members part n i b v c end block value serves there))
keeps logs members part n m (Reads c block value pos less up held fact) sure i = record {
  sound = i.sound;
  ran = i.ran;
  views = λ b inside. reads_view logs members part b n (i.views b inside) c block value pos less up held fact;
}
keeps logs members part n m (Syncs c pos less up clean) sure i = record {
  sound = i.sound;
  ran = i.ran;
  views = λ b inside. syncs_view logs members part b n (i.views b inside)
      (owed_on logs (Sure members n) (FallsApart n.acts) (λ s. s.falls.apart) sure) c pos less up clean;
}
keeps logs members part n m (Seals c rows pos less up free newest) sure i = record {
  sound = i.sound;
  ran = i.ran;
  views = λ b inside. seals_view logs members part b n (i.views b inside) c rows pos less up free newest (whole_books logs members n sure);
}
keeps logs members part n m (Files c pos less up flies) sure i =
    let rows = n.books.rows c (suc (n.books.end c)) in
    record {
      sound = put_each (λ k x. IsSound x) n.tokens c (all_settled (n.tokens c) rows) (settled_sound (n.tokens c) rows (i.sound c)) (λ k other. i.sound k);
      ran = i.ran;
      views = λ b inside. files_view logs members part b n (i.views b inside) c pos less up (i.sound c) flies (whole_books logs members n sure);
    }
keeps logs members part n m (GetsDeltas e s log first upto_ rows at known some covers) sure i = record {
  sound = i.sound;
  ran = ran_put n.slots e (slot.transition s (told.Deltas log first upto_ rows)).state (on s (told.Deltas log first upto_ rows) (i.ran e s at)) i.ran;
  views = λ b inside. deltas_event logs members part n i b inside (i.views b inside) e s log first upto_ rows at known covers;
}
keeps logs members part n m (GetsWant e s c inc req again block mode end at fact) sure i =
    let x = told.Want (slot.want_of c block inc req again mode) end in
    record {
      sound = i.sound;
      ran = ran_put n.slots e (slot.transition s x).state (on s x (i.ran e s at)) i.ran;
      views = λ b inside. let v = i.views b inside in slot_event logs members part n i b v e s x at (λ _. v.sent _ fact) (λ _. tt) (takes-transition s x tt).0;
    }
keeps logs members part n m (GetsGave e s c block stamp end at fact) sure i =
    let x = told.Gave c block stamp end in
    record {
      sound = i.sound;
      ran = ran_put n.slots e (slot.transition s x).state (on s x (i.ran e s at)) i.ran;
      views = λ b inside. (let v = i.views b inside in
          let h = v.sent _ fact in
          slot_event logs members part n i b v e s x at (λ _. (h.0, λ same of_epoch. (h.1 same).1 of_epoch)) (λ _. tt) (takes-transition s x tt).0);
    }
keeps logs members part n m (Ticks e s at) sure i =
    record { sound = i.sound; ran = ran_put n.slots e s (i.ran e s at) i.ran; views = λ b inside. tick_event logs members part n i b (i.views b inside) e s at }
keeps logs members part n m (Crashes c flight falls pos less up once so) sure i = record {
  sound = i.sound;
  ran = i.ran;
  views = λ b inside. crash_view logs members part b n (i.views b inside) c flight falls pos less up so;
}
keeps logs members part n m (Returns c inc epochs chain count pos less up later rises flies) sure i = record {
  sound = put_each (λ k x. IsSound x) n.tokens c (fresh_tokens inc epochs) (tokens_start-sound inc epochs) (λ k other. i.sound k);
  ran = i.ran;
  views = λ b inside. returned_view logs members part n i b inside (whole_books logs members n sure) c inc epochs chain count pos less up later rises flies;
}
keeps logs members part n m (SealsCopies l rows out free originals) sure i = record {
  sound = i.sound;
  ran = i.ran;
  views = λ b inside. copies_view logs members part b n (i.views b inside) l rows out free originals (whole_books logs members n sure);
}
keeps logs members part n m (FilesCopies l out flies) sure i =
    record { sound = i.sound; ran = i.ran; views = λ b inside. filed_view logs members part b n (i.views b inside) l out flies }
keeps logs members part n m (Reopens l adopted count out flies) sure i = record {
  sound = i.sound;
  ran = i.ran;
  views = λ b inside. reopens_view logs members part b n (i.views b inside) l adopted count out flies (whole_books logs members n sure);
}
keeps logs members part n m (Activates e index applied rows ends order none all each sent gathered) sure i =
    activated_good logs members part n i e index applied rows ends order none all each sent gathered
keeps logs members part n m (Says a neutral) sure i =
    record { sound = i.sound; ran = i.ran; views = λ b inside. says_view logs members part b n (i.views b inside) a neutral }
