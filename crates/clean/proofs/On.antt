-- A turn of the code stays on the clean line, and the line has come to rest when nothing is on its way.
use Prim.Native.Nat.{ℕ, suc, ◌+◌, ◌≤◌}
use mathlib.Core.Bool.{Bool, true, false}
use mathlib.Core.Path.{◌≡◌, refl, sym, ◌∙◌, ap, subst}
use mathlib.Core.List.{List, [], ◌∷◌, ◌++◌}
use native.Mathlib.Omega.{arith}
use borrow.Author.Tests.{eq-eqb, ne_eqb, le-ltb, eqb-true, eqb-false, ltb-true, ltb-false}
use lib.Dec.{eqb, ltb}
use lib.ListN.{length, take, drop, take-append-drop}
use Rattle.std.proofs.Common.{Ok}
use Rattle.basis.specs.Pick.{pick, pick_yes, pick_no, pick_all}
use Rattle.basis.specs.Left.{Left, left}
use Rattle.lent.specs.Written.{written_into}
use Rattle.lent.specs.Sent.{with_sent}
use Rattle.image.specs.Blocks.{blocks_of}
use Rattle.wire.specs.declared.response.Identity.{Identity}
use Rattle.receiver_state.specs.declared.verdict.Verdict.TheVariants as Ver
use Rattle.receiver_rules.specs.Request.{Effect, receiver_request_of}
use Rattle.receiver_rules.proofs.Written.{request_length}
use Rattle.indoor_state.specs.declared.plan.Release.{Release}
use Rattle.indoor_state.specs.declared.phase.Reason.TheVariants.{NotNewer, TooLarge}
use Rattle.indoor_state.specs.declared.phase.Phase.{Phase}
use Rattle.indoor_state.specs.declared.phase.Phase.TheVariants.{Done, Failed}
use Rattle.indoor_rules.specs.Newer.{newer_of}
use Rattle.indoor_rules.specs.Response.{indoor_response_of}
use Rattle.indoor_state.specs.Session.{IndoorOutcome}
use Rattle.indoor_rules.proofs.Written.{response_leads, written_most, response_length}
use Rattle.line.specs.Line.{Line, line, AtRest, up, down, Clean, delivers, carried_up, carried_down}
use Rattle.line.proofs.Course.{safe}
use Rattle.line.proofs.Sent.{sent_length}
use Rattle.line.proofs.Rest.{most_requests, rests_done, rests_42, rests_43}
use Rattle.line.proofs.Demand3.{demand3}
use Rattle.clean.specs.Run.{Ran, ended, transferred_of, clean_carried_of}
use Rattle.clean.specs.Turn.{ends_underway, Answered, answered, answer_of, Turned, turned, delivered_of, clean_turn_of}
use Rattle.clean.specs.On.{turns_most, clean_line_of, On}
use Rattle.clean.specs.declared.ends.Ends.{Ends}

pub one_goes : (written : ℕ) (out : List ℕ) → (written ≡ 0 → ⊥) → with_sent written out [] ≡ take written out ∷ []
one_goes written out some = pick_no (eqb written 0) [] (take written out ∷ []) (ne_eqb written 0 some)

none_goes : (written : ℕ) (out : List ℕ) → written ≡ 0 → with_sent written out [] ≡ []
none_goes written out none = pick_yes (eqb written 0) [] (take written out ∷ []) (eq-eqb written 0 none)

module _ (file memory : List ℕ) (release : Release) (identity : Identity) (e : Ends) (image upper lower : List ℕ) (delivered : ℕ)
    (on : On file memory release identity e image upper delivered) (some : e.underway ≡ 0 → ⊥) (room : 260 ≤ length lower) where
  abbrev x : Effect
  x = receiver_request_of e.receiver image (take e.underway upper) 0 Ver.Good lower

  abbrev y : Left IndoorOutcome
  y = indoor_response_of e.indoor file (take x.outcome.written x.out) upper

  heard : Clean file memory release identity (suc on.deliveries) (carried_up (clean_line_of e image upper on.requests on.responses) [] x)
  heard = delivers on.clean _ (up (take e.underway upper) [] (one_goes e.underway upper some) Ver.Good (record { in_range = tt; good = λ _. refl }) lower room)

  delivered_one : length on.requests ≡ delivered + 1
  delivered_one = on.count ∙ ap (λ (l : List (List ℕ)). delivered + length l) (one_goes e.underway upper some)

  abbrev Then : Answered → Type 0
  Then a = On file memory release identity a.ends x.image a.up (delivered + 1)

  silent : x.outcome.written ≡ 0 → Then (answered (ends_underway x.outcome.session e.indoor 0) upper)
  unfolding pick
  silent none = record {
    wide = on.wide;
    deliveries = suc on.deliveries;
    requests = on.requests;
    responses = with_sent x.outcome.written x.out on.responses;
    clean = subst (λ (d : List (List ℕ)). Clean file memory release identity (suc on.deliveries) (line (carried_up (clean_line_of e image upper on.requests on.responses) [] x).world [] d))
        (none_goes x.outcome.written x.out none) heard;
    count = delivered_one ∙ omega arith;
    room = on.room;
    fits = omega arith;
  }

  delivered_down : (x.outcome.written ≡ 0 → ⊥) → Clean file memory release identity (suc (suc on.deliveries)) (carried_down (carried_up (clean_line_of e image upper on.requests on.responses) [] x) [] y)
  delivered_down more = delivers heard _ (down (take x.outcome.written x.out) [] (one_goes x.outcome.written x.out more) upper (let long = on.room in omega arith))

  answers : (x.outcome.written ≡ 0 → ⊥) → Then (answered (ends_underway x.outcome.session y.answer.session y.answer.written) y.memory)
  answers more = record {
    wide = on.wide;
    deliveries = suc (suc on.deliveries);
    requests = with_sent y.answer.written y.memory on.requests;
    responses = with_sent x.outcome.written x.out on.responses;
    clean = delivered_down more;
    count = sent_length (eqb y.answer.written 0) (take y.answer.written y.memory) on.requests
        ∙ ap (λ (c : ℕ). c + length (with_sent y.answer.written y.memory [])) delivered_one;
    room = response_length e.indoor file (take x.outcome.written x.out) upper ∙ on.room;
    fits = written_most e.indoor.plan file upper y (response_leads e.indoor file (take x.outcome.written x.out) upper);
  }

  answer_on : Then (answer_of x.outcome.session e.indoor file upper x.out x.outcome.written)
  unfolding answer_of
  answer_on =
      pick_all Then (eqb x.outcome.written 0) _ _
      (λ t. silent (eqb-true x.outcome.written 0 t))
      (λ f. answers (eqb-false x.outcome.written 0 f))

  turn_delivers : clean_turn_of e file image upper lower ≡ delivered_of e file image upper lower
  unfolding clean_turn_of pick
  turn_delivers = let long = on.room in rw (le-ltb (length upper) e.underway (omega (arith, on.fits)))

  -- One more request is delivered.
  pub turn_on : (e' : Ends) (image' upper' lower' : List ℕ) → turned e' image' upper' lower' ≡ clean_turn_of e file image upper lower
      → On file memory release identity e' image' upper' (delivered + 1)
  unfolding delivered_of
  turn_on e' image' upper' lower' did =
      subst (λ (t : Turned). On file memory release identity t.ends t.image t.up (delivered + 1)) (sym (did ∙ turn_delivers)) answer_on

  turn_room : (e' : Ends) (image' upper' lower' : List ℕ) → turned e' image' upper' lower' ≡ clean_turn_of e file image upper lower → length lower' ≡ length lower
  unfolding delivered_of
  turn_room e' image' upper' lower' did =
      ap (λ (t : Turned). length t.down) (did ∙ turn_delivers) ∙ request_length e.receiver image (take e.underway upper) 0 Ver.Good lower

module _ (file memory : List ℕ) (release : Release) (identity : Identity) (e : Ends) (image upper : List ℕ) (delivered : ℕ)
    (on : On file memory release identity e image upper delivered) where
  abbrev l : Line
  l = clean_line_of e image upper on.requests on.responses

  goes_or_not : (t : Bool) → eqb e.underway 0 ≡ t → turns_most ≤ delivered → e.underway ≡ 0
  goes_or_not true t h = eqb-true e.underway 0 t
  goes_or_not false t h =
      let some = ap (λ (m : List (List ℕ)). length m) (one_goes e.underway upper (eqb-false e.underway 0 t)) in
      let count = on.count in
      let most = most_requests file memory release identity on.wide on.clean in
      absurd (omega arith)

  -- 4,100 turns always suffice.
  pub turns_suffice : turns_most ≤ delivered → e.underway ≡ 0
  turns_suffice = goes_or_not (eqb e.underway 0) refl

  module _ (none : e.underway ≡ 0) where
    rest : AtRest l
    rest = record { up = none_goes e.underway upper none; down = refl }

    all_delivered : length on.requests ≡ delivered
    all_delivered = on.count ∙ ap (λ (m : List (List ℕ)). delivered + length m) (none_goes e.underway upper none) ∙ omega arith

    abbrev Is : Left Ran → Type 0
    Is r = left (Ok (ended e.indoor.state.phase delivered)) image ≡ r

    same : (phase : Phase) (requests : ℕ) (lies : List ℕ) → e.indoor.state.phase ≡ phase → length on.requests ≡ requests → image ≡ lies → Is (left (Ok (ended phase requests)) lies)
    same phase requests lies p n i = rw (p, ← n, ← all_delivered, i)

    done : newer_of release identity ≡ true → length file ≤ length memory → Is (left (Ok (ended Done (blocks_of (length file) + 4))) (written_into file memory))
    done new fits =
        let r = rests_done file memory release identity on.wide on.clean rest new fits in
        let d = demand3 file memory release identity on.wide in
        let g = (d.done_is_good l.world (d.clean_reached on.deliveries l on.clean) r.in_phase).holds in
        same Done (blocks_of (length file) + 4) (written_into file memory) r.in_phase r.requests
        (sym (take-append-drop (length file) image) ∙ ap (λ (m : List ℕ). m ++ drop (length file) image) g.bytes ∙ ap (λ (m : List ℕ). file ++ m) g.behind)

    transferred : newer_of release identity ≡ true → Is (transferred_of file memory)
    unfolding transferred_of
    transferred new =
        pick_all Is (ltb (length memory) (length file)) _ _
        (λ t.
        let r = rests_43 file memory release identity on.wide on.clean rest new (ltb-true (length memory) (length file) t) in
        same (Failed TooLarge) 3 memory r.1.in_phase r.1.requests r.0)
        (λ f. done new (ltb-false (length memory) (length file) f))

    pub ran : Is (clean_carried_of release identity file memory)
    unfolding clean_carried_of
    ran =
        pick_all Is (newer_of release identity) _ _ transferred
        (λ f.
        let r = rests_42 file memory release identity on.wide on.clean rest f in
        same (Failed NotNewer) 1 memory r.1.in_phase r.1.requests r.0)

-- What holds at each turn, after so many.
pub record Mid (file memory : List ℕ) (release : Release) (identity : Identity) (e : Ends) (image upper lower : List ℕ) (delivered : ℕ) : Type 0 where
  pub on : On file memory release identity e image upper delivered
  pub room : length lower ≡ 260

module _ (file memory : List ℕ) (release : Release) (identity : Identity) (e : Ends) (image upper lower : List ℕ) (delivered : ℕ) (mid : Mid file memory release identity e image upper lower delivered) where
  pub mid_turn : (e.underway ≡ 0 → ⊥) → (e' : Ends) (image' upper' lower' : List ℕ) → turned e' image' upper' lower' ≡ clean_turn_of e file image upper lower
      → Mid file memory release identity e' image' upper' lower' (delivered + 1)
  mid_turn some e' image' upper' lower' did =
      let room = mid.room in
      record {
        on = turn_on file memory release identity e image upper lower delivered mid.on some (omega arith) e' image' upper' lower' did;
        room = turn_room file memory release identity e image upper lower delivered mid.on some (omega arith) e' image' upper' lower' did ∙ room;
      }

  -- No turn makes the image longer or shorter.
  pub mid_size : length image ≡ length memory
  mid_size = (safe file memory release identity mid.on.wide mid.on.clean).size

  -- The loop ends with nothing on its way or with the last turn, and its result is the definition's.
  pub mid_rests : e.underway ≡ 0 → left (Ok (ended e.indoor.state.phase delivered)) image ≡ clean_carried_of release identity file memory
  mid_rests none = ran file memory release identity e image upper delivered mid.on none

  pub mid_ends : delivered ≡ turns_most → left (Ok (ended e.indoor.state.phase turns_most)) image ≡ clean_carried_of release identity file memory
  mid_ends last =
      rw (← last)
      (mid_rests (turns_suffice file memory release identity e image upper delivered mid.on (omega arith)))
