-- From a fresh mailbox, over any events: it is well-formed and has its sizes, and so every CCI has 32 bits (01, The mailbox).
use Prim.Native.Nat.{ℕ, ◌-◌, ◌/◌, ◌%◌, ◌^◌, ◌≤◌, ◌<◌}
use mathlib.Core.Bool.{Bool, false}
use mathlib.Core.List.{List, [], ◌∷◌, ◌++◌}
use mathlib.Core.Path.{◌≡◌, refl, sym, ◌∙◌, ap, subst}
use native.Mathlib.Omega.{arith}
use lib.ListN.{get_or}
use Rattle.std.specs.Prelude.{Ok}
use Rattle.mailbox_state.specs.Answer.{mailbox_number_of}
use Rattle.mailbox_state.specs.Status.{runs_of}
use Rattle.mailbox_state.specs.declared.status.CommandStatus.{CommandStatus}
use Rattle.mailbox_state.specs.declared.status.CommandStatus.TheVariants.{Completed}
use Rattle.mailbox_state.specs.declared.mailbox.Mailbox.{Mailbox}
use Rattle.mailbox_rules.specs.Changes.{marked_of}
use Rattle.mailbox_rules.specs.Cci.{cci_bits_of}
use Rattle.mailbox_rules.specs.Events.{Event, event_of}
use Rattle.mailbox_rules.specs.History.{History, history, answered_of, history_from, Reached}
use Rattle.mailbox_rules.specs.Mailbox.{fresh_mailbox, mailbox_fresh_of, mailbox_cci_of}
use Rattle.mailbox_rules.specs.Says.{Says}
use Rattle.mailbox_rules.specs.WellFormed.{WellFormed, Sizes}
use Rattle.mailbox_rules.proofs.Bits.{cci_width, completed_says}
use Rattle.mailbox_rules.proofs.Laws.{cci_outside, fresh_counts, fresh_all}
use Rattle.mailbox_rules.proofs.Marked.{marked}
use Rattle.mailbox_rules.proofs.Places.{Behind, none_behind, noted_behind, next_behind}
use Rattle.mailbox_rules.proofs.Sizes.{fresh_sizes, event_sizes}
use Rattle.mailbox_rules.proofs.Steps.{event_connectors, event_changes}
use Rattle.mailbox_rules.proofs.WellFormed.{fresh_formed, event_formed}

-- A history goes on: after the answers so far comes the event, with the number that it is answered and CCI afterwards.
abbrev goes_on : History → Event → History
goes_on h e =
    history
    (h.answered ++ record { event = e; number = mailbox_number_of (event_of h.mailbox e).answer; cci = mailbox_cci_of (event_of h.mailbox e).mailbox } ∷ [])
    (event_of h.mailbox e).mailbox

pub history_next : (m : Mailbox) (events : List Event) (e : Event) → history_from m (events ++ e ∷ []) ≡ goes_on (history_from m events) e
unfolding history_from
history_next m [] e = refl
history_next m (first ∷ events) e =
    ap (λ (h : History). history (answered_of first (event_of m first) ∷ h.answered) h.mailbox) (history_next (event_of m first).mailbox events e)

pub history_none : (m : Mailbox) → history_from m [] ≡ history [] m
unfolding history_from
history_none m = refl

pub reached_next : (count : ℕ) (m : Mailbox) (e : Event) → Reached count m → Reached count (event_of m e).mailbox
reached_next count m e r =
    record {
      start = r.start;
      made = r.made;
      events = r.events ++ e ∷ [];
      ending =
          ap (λ (h : History). h.mailbox) (history_next r.start r.events e)
          ∙ ap (λ (x : Mailbox). (event_of x e).mailbox) r.ending;
    }

pub reached_fresh : (count : ℕ) (m : Mailbox) → mailbox_fresh_of count ≡ Ok m → Reached count m
unfolding history_from
reached_fresh count m e = record { start = m; made = e; events = []; ending = refl }

-- A mailbox that a start makes is the fresh one of its count, which is from 1 to 8.
pub record Made (count : ℕ) (m : Mailbox) : Type 0 where
  pub low : 1 ≤ count
  pub high : count ≤ 8
  pub fresh : m ≡ fresh_mailbox count

pub made : (count : ℕ) (m : Mailbox) → mailbox_fresh_of count ≡ Ok m → Made count m
made count m =
    fresh_all count (λ r. r ≡ Ok m → Made count m) (λ e. cc)
    (λ low high e. record { low = low; high = high; fresh = cc })

-- What holds of a fresh mailbox and is kept by every event holds after any history.
module _ (P : Mailbox → Type 0) (keeps : (m : Mailbox) (e : Event) → P m → P (event_of m e).mailbox) where
  keeps_all_lem : (m : Mailbox) (events : List Event) → P m → P (history_from m events).mailbox
  unfolding history_from
  keeps_all_lem m [] h = h
  keeps_all_lem m (e ∷ events) h = keeps_all_lem (event_of m e).mailbox events (keeps m e h)

  pub after_any : {count : ℕ} {m : Mailbox} → P (fresh_mailbox count) → Reached count m → P m
  after_any {count} fresh r =
      subst P r.ending (keeps_all_lem r.start r.events (subst P (sym (made count r.start r.made).fresh) fresh))

module _ {count : ℕ} {m : Mailbox} (r : Reached count m) where
  pub reached_formed : WellFormed m.state
  reached_formed =
      after_any (λ x. WellFormed x.state) (λ x e. event_formed x.state e) (fresh_formed count (made count r.start r.made).low (made count r.start r.made).high) r

  pub reached_sizes : Sizes m
  reached_sizes = after_any Sizes event_sizes (fresh_sizes count) r

  -- The connectors are fixed at the start.
  pub reached_count : m.state.connectors ≡ count
  reached_count = after_any (λ x. x.state.connectors ≡ count) (λ x e h. event_connectors x.state e ∙ h) (fresh_counts count) r

  -- None waits while none is shown.
  pub reached_behind : Behind m.state.changes
  unfolding fresh_mailbox
  reached_behind =
      after_any (λ x. Behind x.state.changes)
      (λ x e h.
      event_changes Behind none_behind x.state (λ _. next_behind x.state.changes) (λ c low high _. noted_behind x.state.changes c low) h e)
      none_behind r

  -- Seven bits hold the connector shown.
  pub shown_fits : m.state.changes.shown % 128 ≡ m.state.changes.shown
  shown_fits = let few = reached_formed.within.shown in let most = reached_formed.high in omega (arith, few, most)

  pub shown_in_cci : runs_of m.state.status ≡ false → mailbox_cci_of m / 2 ^ 1 % 2 ^ 7 ≡ m.state.changes.shown
  shown_in_cci still = cci_outside m still ∙ shown_fits

  -- CCI is 32 bits, whatever it says; after a completion it says the data length.
  pub reached_width : mailbox_cci_of m < 2 ^ 32
  reached_width = cci_width m.state.status m.state.changes.shown reached_sizes.data_length

  pub reached_completed : (n : ℕ) → m.state.status ≡ Completed n → Says (mailbox_cci_of m) m.state.changes.shown n (31 ∷ [])
  reached_completed n e =
      let few = reached_sizes.data_length n e in
      subst (λ (t : CommandStatus). Says (cci_bits_of t m.state.changes.shown) m.state.changes.shown n (31 ∷ [])) (sym e)
      (subst (λ (c : ℕ). Says (cci_bits_of (Completed n) m.state.changes.shown) c n (31 ∷ [])) shown_fits
      (completed_says m.state.changes.shown n (omega (arith, few))))

  -- A connector that is marked waits, and one that is marked so waits no more.
  pub reached_marked : (c : ℕ) → 1 ≤ c → c ≤ count → (b : Bool) → get_or (marked_of m.state.changes.waiting c b) (c - 1) false ≡ b
  reached_marked c low high b =
      let most = reached_formed.high in
      let same = reached_count in
      marked m.state.changes.waiting c b low (omega (arith, high, most, same)) reached_sizes.eight
