-- Document 01, "What a reader may rely on", with what document 02 adds, as one statement: each field is a promise about the calls, by name.
-- proofs/Promises.antt is its witness. That a call ends and keeps to what it was lent is what it means to be proved; the window program's lines
-- are proved in `report`.
use Rattle.settings.specs.Examples.{AsFound, ByOffset}
use Rattle.direction.specs.Laws.{NoneBelowPickup, NeverBoth, ForwardRule, ReverseRule}
use Rattle.distance.specs.Laws.{MhoRule, LargerReach, NoPolarising, NoPositive}
use Rattle.quadrilateral.specs.Laws.{QuadrilateralRule, NoResidual, LargerResistiveReach, FaultEquation}
use Rattle.differential.specs.Laws.{OperatesRule, SmallerSlope, NoneAt100, NeverTooSmall, ZeroWindow, OneSlopeOfChange, ChangeAtMost99, ChangeBelowPickup}
use Rattle.differential.specs.Named.{NamedWindow, OneCountIsFalse, BandIsUsed}
use Rattle.differential.specs.PaperMill.{PaperMill}
use Rattle.gorsepetal.specs.Calls.{Proposed, Confirmed, ReadBack}
use Rattle.gorsepetal.proofs.Contracts.{ProposeContract, ConfirmContract, ReadBackContract, DecideContract, FeedContract, DecideNumbersContract, WindowBytesContract}
use Rattle.claims.specs.One.{OneProposed, OneConfirmed, OneReadBack, OneDecided, OneFed, OneDecidedNumbers, NumberAndPlace}
use Rattle.claims.specs.GivenBack.{ProposeAnswers, ConfirmAnswers, ReadBackAnswers, DecideAnswers, FeedAnswers}
use Rattle.claims.specs.Settings.{GoodExactly, FreshHasNothing, AcceptedProposal, AcceptedConfirmation, GoodComesIntoForce, ReadsWhatIsInForce, ConfirmedReadsBack, RefusedEntry, NoThirdEntry, DiffersAtFirst, MissingInOrder, RefusedReadBack, RefusedDecide, NoRelayNoChange}
use Rattle.claims.specs.WrongRelays.{NotZeroed, NotHandedOut}
use Rattle.claims.specs.Demand1.{Demand1, OverHistories}
use Rattle.claims.specs.Frames.{KeptExactly, ElseNothingKept, FedAsDecided, MissingInFrames, RefusedFeed, ReadIsFed, ElseUnfed}
use Rattle.claims.specs.Unmoved.{FeedLeavesSettings, ReadLeavesSettings, EntriesLeaveWindow, WindowDoesNotMatter}
use Rattle.claims.specs.Feeding.{FirmwareHears, HearsByEvents, HearsOverHistories, PlaceFalls}
use Rattle.decision_claims.specs.Demand2.{Demand2}
use Rattle.decision_claims.specs.SecondZone.{SecondZoneHasFirst, OtherBytesStay, RecordsFromBefore}
use Rattle.decision_claims.specs.Balanced.{BalancedFault, BetweenLimits, NoVoltage, ElseAsBefore}
use Rattle.decision_claims.specs.Change.{OneChange, SameStory, AtAnotherSlope, ChangeMovesThree}
use Rattle.decision_claims.specs.Quadrilaterals.{QuadrilateralHasReason, FaultTold, LargerRKeeps, AtAnotherR, QuadrilateralsOff, RecordsBeforeR}
use Rattle.decision_claims.specs.Demand3.{Demand3First, Demand3Second, Demand3OfChange, TripHasReason, FaultTrips, ThroughDoesNot, ThroughIsQuiet}
use Rattle.claims.specs.WhichRule.{WhichRule, WhichRuleOverHistories, WhichRuleByFeeding, WhichRuleByEvents, WhichRecord, WhichRecordOverHistories, SaidTwiceReadsBack, SaidTwiceDecides, SaidTwiceDecidesByFeeding}
use Rattle.worked.specs.HandChecks.{HandChecks}
use Rattle.worked.specs.Worked.{WorkedDecisions}
use Rattle.claims.specs.Underneath.{RoundedOnce, RootsOnce}
use Rattle.gorsepetal.proofs.EventContracts.{EventsOpenContract, EventsWantedContract, EventsReadContract, EventsEndContract, EventsWriteContract}
use Rattle.files.specs.Cutting.{ReadAsJoined, JoinedAsRead, NoWrap}
use Rattle.files.specs.Cutting as cutting
use Rattle.event_claims.specs.One.{OneEventsOpened, OneEventsWanted, OneEventsRead, OneEventsEnded, OneEventsWritten}
use Rattle.event_claims.specs.GivenBack.{EventsOpenAnswers, EventsReadAnswers, EventsEndAnswers, EventsWriteAnswers}
use Rattle.event_claims.specs.Files.{CutAnywhere, WritesRecord, RefusedWrite, MissingMark, WrittenRead, ReadWritten, FedByHand}
use Rattle.event_claims.specs.Ending.{RefusalsEnd, SameRefusal, FeedDoesNotEnd, ZeroMeans, RefusedRead, NoReaderNoChange}

pub record Gorsepetal : Type 1 where
  -- what the code promises is the claims that all of this speaks of, and it asks nothing of its caller
  pub propose_contract : ProposeContract
  pub confirm_contract : ConfirmContract
  pub read_back_contract : ReadBackContract
  pub decide_contract : DecideContract
  pub feed_contract : FeedContract
  pub decide_numbers_contract : DecideNumbersContract
  pub window_bytes_contract : WindowBytesContract
  pub events_open_contract : EventsOpenContract
  pub events_wanted_contract : EventsWantedContract
  pub events_read_contract : EventsReadContract
  pub events_end_contract : EventsEndContract
  pub events_write_contract : EventsWriteContract
  -- no second result meets a claim
  pub one_proposed : OneProposed
  pub one_confirmed : OneConfirmed
  pub one_read_back : OneReadBack
  pub one_decided : OneDecided
  pub one_fed : OneFed
  pub one_decided_numbers : OneDecidedNumbers
  pub one_events_opened : OneEventsOpened
  pub one_events_wanted : OneEventsWanted
  pub one_events_read : OneEventsRead
  pub one_events_ended : OneEventsEnded
  pub one_events_written : OneEventsWritten
  pub number_and_place : NumberAndPlace
  -- each number comes in its row's condition, and in no other
  pub propose_answers : ProposeAnswers
  pub confirm_answers : ConfirmAnswers
  pub read_back_answers : ReadBackAnswers
  pub decide_answers : DecideAnswers
  pub feed_answers : FeedAnswers
  pub events_open_answers : EventsOpenAnswers
  pub events_read_answers : EventsReadAnswers
  pub events_end_answers : EventsEndAnswers
  pub events_write_answers : EventsWriteAnswers
  -- demand 1: in force exactly when said twice
  pub demand_1 : Demand1
  pub over_histories : OverHistories
  -- frame by frame: what the firmware hears
  pub firmware_hears : FirmwareHears
  pub hears_over_histories : HearsOverHistories
  pub kept_exactly : KeptExactly
  pub else_nothing_kept : ElseNothingKept
  pub fed_as_decided : FedAsDecided
  pub missing_in_frames : MissingInFrames
  pub place_falls : PlaceFalls
  pub refused_feed : RefusedFeed
  -- and what feeding does not move
  pub feed_leaves_settings : FeedLeavesSettings
  pub read_leaves_settings : ReadLeavesSettings
  pub entries_leave_window : EntriesLeaveWindow
  pub window_does_not_matter : WindowDoesNotMatter
  -- event files: read in pieces cut anywhere, fed as by hand, written and read back
  pub cut_anywhere : CutAnywhere
  pub fed_by_hand : FedByHand
  pub written_read : WrittenRead
  pub read_written : ReadWritten
  pub read_is_fed : ReadIsFed
  pub else_unfed : ElseUnfed
  pub hears_by_events : HearsByEvents
  pub zero_means : ZeroMeans
  pub writes_record : WritesRecord
  pub missing_mark : MissingMark
  -- what ends a reading and what does not, and what a refusal leaves
  pub refusals_end : RefusalsEnd
  pub same_refusal : SameRefusal
  pub feed_does_not_end : FeedDoesNotEnd
  pub no_wrap : NoWrap
  pub refused_read : RefusedRead
  pub refused_write : RefusedWrite
  pub no_reader_no_change : NoReaderNoChange
  -- and the cutting itself, over the width of a channel
  pub cut_over_width : cutting.CutAnywhere
  pub read_as_joined : ReadAsJoined
  pub joined_as_read : JoinedAsRead
  -- demand 2: every quantity equals its definition
  pub demand_2 : Demand2
  -- the second zone, and what it does not move
  pub second_zone_has_first : SecondZoneHasFirst
  pub other_bytes_stay : OtherBytesStay
  pub records_from_before : RecordsFromBefore
  -- balanced faults, and what they do not move
  pub balanced_fault : BalancedFault
  pub between_limits : BetweenLimits
  pub no_voltage : NoVoltage
  pub else_as_before : ElseAsBefore
  -- the slope at which it changes: "how far off can the slope be?"; and what it does not move
  pub one_change : OneChange
  pub same_story : SameStory
  pub at_another_slope : AtAnotherSlope
  pub change_moves_three : ChangeMovesThree
  -- the quadrilateral ground loops, and what they do not move
  pub quadrilateral_has_reason : QuadrilateralHasReason
  pub fault_told : FaultTold
  pub larger_r_keeps : LargerRKeeps
  pub at_another_r : AtAnotherR
  pub quadrilaterals_off : QuadrilateralsOff
  pub records_before_r : RecordsBeforeR
  -- demand 3: how far rounding can move the decision
  pub demand_3_first : Demand3First
  pub demand_3_second : Demand3Second
  pub demand_3_of_change : Demand3OfChange
  pub trip_has_reason : TripHasReason
  pub fault_trips : FaultTrips
  pub through_does_not : ThroughDoesNot
  pub through_is_quiet : ThroughIsQuiet
  -- which rule had answered, and which record was read back
  pub which_rule : WhichRule
  pub which_rule_over_histories : WhichRuleOverHistories
  pub which_rule_by_feeding : WhichRuleByFeeding
  pub which_rule_by_events : WhichRuleByEvents
  pub which_record : WhichRecord
  pub which_record_over_histories : WhichRecordOverHistories
  pub said_twice_reads_back : SaidTwiceReadsBack
  pub said_twice_decides : SaidTwiceDecides
  pub said_twice_decides_by_feeding : SaidTwiceDecidesByFeeding
  -- what the desk may rely on, call by call
  pub good_exactly : GoodExactly
  pub fresh_has_nothing : FreshHasNothing
  pub accepted_proposal : AcceptedProposal Proposed
  pub accepted_confirmation : AcceptedConfirmation
  pub good_comes_into_force : GoodComesIntoForce
  pub reads_what_is_in_force : ReadsWhatIsInForce ReadBack
  pub confirmed_reads_back : ConfirmedReadsBack
  pub refused_proposal : RefusedEntry Proposed
  pub refused_confirmation : RefusedEntry Confirmed
  pub no_third_entry : NoThirdEntry
  pub differs_at_first : DiffersAtFirst
  pub missing_in_order : MissingInOrder
  pub refused_read_back : RefusedReadBack
  pub refused_decide : RefusedDecide
  pub no_relay_no_change : NoRelayNoChange
  -- and two relays that would hurt somebody, which these promises rule out
  pub not_zeroed : NotZeroed
  pub not_handed_out : NotHandedOut
  -- the settings table: its order, and worked records
  pub by_offset : ByOffset
  pub as_found : AsFound
  -- what a relay engineer will look for in the rules
  pub mho_rule : MhoRule
  pub larger_reach : LargerReach
  pub no_polarising : NoPolarising
  pub no_positive : NoPositive
  pub quadrilateral_rule : QuadrilateralRule
  pub no_residual : NoResidual
  pub larger_resistive_reach : LargerResistiveReach
  pub fault_equation : FaultEquation
  pub none_below_pickup : NoneBelowPickup
  pub never_both : NeverBoth
  pub forward_rule : ForwardRule
  pub reverse_rule : ReverseRule
  pub operates_rule : OperatesRule
  pub smaller_slope : SmallerSlope
  pub none_at_100 : NoneAt100
  pub never_too_small : NeverTooSmall
  pub zero_window : ZeroWindow
  pub one_slope_of_change : OneSlopeOfChange
  pub change_at_most_99 : ChangeAtMost99
  pub change_below_pickup : ChangeBelowPickup
  -- the hand checks, and examples worked out
  pub hand_checks : HandChecks
  pub worked_decisions : WorkedDecisions
  pub paper_mill : PaperMill
  pub named_window : NamedWindow
  pub band_is_used : BandIsUsed
  pub one_count_is_false : OneCountIsFalse
  -- what is underneath
  pub rounded_once : RoundedOnce
  pub roots_once : RootsOnce
