-- A client's want of a block, since a moment: whatever input its tokens take, its incarnation stays, what it promised and the numbers of its wants never fall,
-- and a want of the block that has a later number is followed by wants with later ones.
use Rattle.std.proofs.Common.{◌≡◌, ℕ, ◌+◌, ◌<◌, ◌≤◌, ◌&&◌, zero, suc, true, Bool, List, [], ◌∷◌, Option, Some, None, is_some, refl, sym, subst, ◌∙◌, nat_lt, arith}
use Rattle.std.specs.Prelude.{slice_set}
use Rattle.std.proofs.lemmas.Bool.{leb-true}
use Rattle.client_moves.proofs.Tokens.{inputs_are_moves}
use Rattle.client_moves.specs.Tokens.{Changed, NotGranted, TokenMoves}
use Rattle.client_moves.specs.Tokens.Changed.{AskedAgain, Fetched, GivenUp, LetGo, PutOff, Quit, Settled, Supplied, Unfetched, Written}
use Rattle.client_moves.specs.Tokens.TokenMoves.{Asks, Follows, Keeps, Puts, Raises, Tells}
use Rattle.token_client.proofs.Tables.{held_of-changed, held_of-put_itself, put_each}
use Rattle.token_client.specs.declared.held.Fetch.{Fetch}
use Rattle.token_client.specs.declared.held.Held.{Held}
use Rattle.token_client.specs.declared.held.Wanted.{Wanted}
use Rattle.token_client.specs.declared.input.In.{In}
use Rattle.token_client.specs.declared.output.Out.{Out}
use Rattle.token_client.specs.Held.{drop_promised, end_fetch, gives_after, give_up, held_ask, held_own, put_off, take_copy, take_grant}
use Rattle.token_client.specs.State.{TokensState, epoch_of, held_of, is_in_slot, with_held}
use Rattle.token_client.specs.Transition.{Done, drop_in, on_reask, raised, tokens_ask, transition}
use Rattle.xfs_base.proofs.Booleans.{by_test, contrary}
use Rattle.xfs_base.specs.Blocks.{slot_of}
use Rattle.xfs_base.specs.declared.block.BlockId.{BlockId}
use Rattle.xfs_base.specs.declared.entry.Entry.{Entry}
use Rattle.xfs_base.specs.declared.entry.Place.{Place}
use Rattle.xfs_base.specs.declared.token.Mode.{Mode}
use Rattle.xfs_base.specs.declared.token.Mode.TheVariants.{Copy}
use Rattle.xfs_base.specs.declared.token.Stamp.{Stamp}
use Rattle.xfs_base.specs.Limits.{u32_end}
use Rattle.xfs_base.specs.Modes.{is_held, is_own}
use Rattle.xfs_base.specs.Steps.{still}

-- a promise that is raised is no lower, and others stay
epoch_rises : (epochs : List ℕ) (slot epoch other : ℕ) → epoch_of epochs slot ≤ epoch → epoch_of epochs other ≤ epoch_of (slice_set epochs slot epoch) other
epoch_rises [] slot epoch other less = omega arith
epoch_rises (x ∷ xs) zero epoch zero less = less
epoch_rises (x ∷ xs) zero epoch (suc other) less = omega arith
epoch_rises (x ∷ xs) (suc slot) epoch zero less = omega arith
epoch_rises (x ∷ xs) (suc slot) epoch (suc other) less = epoch_rises xs slot epoch other less

module _ (b : BlockId) (inc highest epoch : ℕ) where
  -- a want, where there is one, has a later number
  abbrev pub Above : Option Wanted → Type 0
  Above None = Unit {0}
  Above (Some w) = highest < w.req

  -- so it is of the block
  abbrev At : BlockId → Held → Type 0
  At q h = q ≡ b → Above h.want

  pub record Later (s : TokensState) : Type 0 where
    pub life : s.inc ≡ inc
    pub counted : highest ≤ s.req
    pub promised : epoch ≤ epoch_of s.epochs (slot_of b.ino.0)
    pub want : (q : BlockId) → q ≡ b → Above (held_of s.blocks q).want

  -- ---- one block

  put_so : (s : TokensState) (block : BlockId) (h : Held) → At block h → Later s → Later (with_held s block h)
  put_so s block h here l = record {
    life = l.life;
    counted = l.counted;
    promised = l.promised;
    want = put_each At block h s.blocks here l.want;
  }

  granted_so : (h : Held) (block : BlockId) (stamp : Stamp) (ver : ℕ) (place : Option Place) → At block (take_copy h stamp ver place)
  granted_so h block stamp ver None same = tt
  granted_so h block stamp ver (Some place) same = tt

  taken_so : (h : Held) (block : BlockId) (stamp : Stamp) (mode : Mode) (entry : Entry) → At block (take_grant h stamp mode entry)
  taken_so h block stamp mode entry =
      by_test (At block) (is_own mode) (held_own h stamp entry.ver) (take_copy h stamp entry.ver entry.place) (λ t same. tt)
      (λ t. granted_so h block stamp entry.ver entry.place)

  ended_so : (h : Held) (block : BlockId) (fetch : Option Fetch) (value : Option (List ℕ)) → At block h → At block (end_fetch h fetch value)
  ended_so h block None value fact = fact
  ended_so h block (Some fetch) value fact = fact

  put_off_so : (h : Held) (block : BlockId) (stamp : Stamp) (keep : Bool) → At block h → At block (put_off h stamp keep)
  put_off_so h block stamp keep fact =
      by_test (At block) (gives_after h.giving stamp) h (record h { giving = Some (record { stamp = stamp; keep = keep }) }) (λ t. fact) (λ t. fact)

  give_up_so : (h : Held) (block : BlockId) (stamp : Stamp) (keep : Bool) → At block h → At block (give_up h stamp keep)
  give_up_so h block stamp keep fact =
      by_test (At block) (keep && is_held h.mode) (record h { mode = Copy; stamp = stamp; giving = None }) _ (λ t. fact) (λ t. fact)

  dropped_so : (slot : ℕ) (block : BlockId) (h : Held) → At block h → At block (drop_in slot block h)
  dropped_so slot block h fact = by_test (At block) (is_in_slot slot block) (drop_promised h) h (λ t. fact) (λ t. fact)

  same_dropped : (slot : ℕ) (block : BlockId) → drop_in slot block (held_of [] block) ≡ held_of [] block
  same_dropped slot block = by_test (λ (g : Held). g ≡ held_of [] block) (is_in_slot slot block) _ _ (λ t. refl) (λ t. refl)

  raised_so : (s : TokensState) (slot at : ℕ) → epoch_of s.epochs slot ≤ at → Later s → Later (raised s slot at)
  raised_so s slot at less l = record {
    life = l.life;
    counted = l.counted;
    promised = (let rises = epoch_rises s.epochs slot at (slot_of b.ino.0) less in let p = l.promised in omega arith);
    want = λ q same.
        subst (λ (h : Held). Above h.want) (sym (held_of-changed (drop_in slot) q s.blocks (same_dropped slot q)))
        (dropped_so slot q (held_of s.blocks q) (l.want q) same);
  }

  -- ---- any input

  changed_so : (block : BlockId) (h g : Held) → Changed h g → At block h → At block g
  changed_so block h g (Supplied stamp ver value) fact = λ same. tt
  changed_so block h g Unfetched fact = fact
  changed_so block h g (PutOff stamp keep) fact = put_off_so h block stamp keep fact
  changed_so block h g (GivenUp stamp keep) fact = give_up_so h block stamp keep fact
  changed_so block h g (Written value) fact = fact
  changed_so block h g (Settled ver) fact = fact
  changed_so block h g (Fetched value) fact = ended_so h block h.fetch value fact
  changed_so block h g LetGo fact = fact
  changed_so block h g Quit fact = λ same. tt
  changed_so block h g (AskedAgain w wants) fact = λ same. subst Above wants (fact same)

  moves_keep : (s t : TokensState) (o : List Out) → TokenMoves s t o → Later s → Later t
  moves_keep s t o (Keeps u) l = l
  moves_keep s t o (Follows {t = v} {o = first} {m = more} a b) l = moves_keep v t more b (moves_keep s v first a l)
  moves_keep s t o (Puts u block h changed) l = put_so s block h (changed_so block (held_of s.blocks block) h changed (l.want block)) l
  moves_keep s t o (Asks u block mode room) l =
      let put : Later (with_held s block (held_ask (held_of s.blocks block) (s.req + 1) mode)) =
      put_so s block (held_ask (held_of s.blocks block) (s.req + 1) mode) (λ same. let c = l.counted in omega arith) l in
      record { life = put.life; counted = (let c = l.counted in omega arith); promised = put.promised; want = put.want }
  moves_keep s t o (Raises u slot at rises) l = raised_so s slot at (leb-true (epoch_of s.epochs slot) at rises) l
  moves_keep s t o (Tells u out none) l = l

-- ---- of any block

-- whatever was so of the wants of a block is so
abbrev pub Lasts : TokensState → TokensState → Type 0
Lasts s t = (b : BlockId) (inc highest epoch : ℕ) → Later b inc highest epoch s → Later b inc highest epoch t

pub same_wants : (s : TokensState) → Lasts s s
same_wants s b inc highest epoch l = l

pub takes_on : (s : TokensState) (i : In) → NotGranted i → Lasts s (transition s i).state
takes_on s i none b inc highest epoch l =
    moves_keep b inc highest epoch s (transition s i).state (transition s i).outs (inputs_are_moves s i none) l

pub granted_on : (s : TokensState) (block : BlockId) (stamp : Stamp) (mode : Mode) (entry : Entry)
    → Lasts s (with_held s block (take_grant (held_of s.blocks block) stamp mode entry))
granted_on s block stamp mode entry b inc highest epoch l =
    put_so b inc highest epoch s block (take_grant (held_of s.blocks block) stamp mode entry)
    (taken_so b inc highest epoch (held_of s.blocks block) block stamp mode entry) l

-- what is asked again has a later number, as long as the block is fetched
module _ (s : TokensState) (block : BlockId) where
  abbrev pub Anew : TokensState → Type 0
  Anew t = Later block s.inc s.req (epoch_of s.epochs (slot_of block.ino.0)) t

  abbrev AnewDone : Done → Type 0
  AnewDone d = Anew d.state

  abbrev want_anew : Held
  want_anew = held_ask (held_of s.blocks block) (s.req + 1) Copy

  above_anew : Above block s.inc s.req (epoch_of s.epochs (slot_of block.ino.0)) (held_of (with_held s block want_anew).blocks block).want
  above_anew =
      subst (λ (h : Held). Above block s.inc s.req (epoch_of s.epochs (slot_of block.ino.0)) h.want) (sym (held_of-put_itself block want_anew s.blocks)) less
    where
      less : s.req < s.req + 1
      less = omega arith

  tokens_ask_anew : nat_lt s.req u32_end ≡ true → AnewDone (tokens_ask s block Copy)
  unfolding tokens_ask
  tokens_ask_anew room =
      by_test AnewDone (nat_lt s.req u32_end) _ (still s)
      (λ t. record {
        life = refl;
        counted = omega arith;
        promised = omega arith;
        want = λ q same.
            subst (λ (x : BlockId). Above block s.inc s.req (epoch_of s.epochs (slot_of block.ino.0)) (held_of (with_held s block want_anew).blocks x).want)
            (sym same) above_anew;
      }) (λ none. contrary (sym none ∙ room))

  pub asked_anew : nat_lt s.req u32_end ≡ true → is_some (held_of (on_reask s block).state.blocks block).fetch ≡ true → Anew (on_reask s block).state
  unfolding on_reask
  asked_anew room =
      by_test (λ (d : Done). is_some (held_of d.state.blocks block).fetch ≡ true → AnewDone d) (is_some (held_of s.blocks block).fetch) (tokens_ask s block Copy)
      (still s) (λ t f. tokens_ask_anew room) (λ none f. contrary (sym none ∙ f))
