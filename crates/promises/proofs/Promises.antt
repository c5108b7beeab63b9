-- The one statement, from the theorems.
use Rattle.promises.specs.Promises.{Gorsepetal}
use Rattle.gorsepetal.proofs.Contracts as contracts
use Rattle.claims.proofs.One as one
use Rattle.claims.proofs.GivenBack as given_back
use Rattle.claims.proofs.Frames as frames
use Rattle.claims.proofs.Unmoved as unmoved
use Rattle.claims.proofs.Feeding as feeding
use Rattle.claims.proofs.Demand1 as demand_1
use Rattle.decision_claims.proofs.Demand2 as demand_2
use Rattle.decision_claims.proofs.SecondZone as second_zone
use Rattle.decision_claims.proofs.Balanced as balanced
use Rattle.decision_claims.proofs.Change as change
use Rattle.decision_claims.proofs.Quadrilaterals as quadrilaterals
use Rattle.decision_claims.proofs.Demand3 as demand_3
use Rattle.claims.proofs.WhichRule as which_rule
use Rattle.claims.proofs.Settings as settings
use Rattle.claims.proofs.WrongRelays as wrong_relays
use Rattle.settings.proofs.Examples as examples
use Rattle.direction.proofs.Laws as direction
use Rattle.distance.proofs.Laws as distance
use Rattle.quadrilateral.proofs.Laws as quadrilateral
use Rattle.differential.proofs.Laws as differential
use Rattle.differential.proofs.SlopeOfChange as slope-of-change
use Rattle.worked.proofs.HandChecks as hand_checks
use Rattle.differential.proofs.PaperMill as paper_mill
use Rattle.differential.proofs.Used as used
use Rattle.differential.proofs.Rule as rule
use Rattle.worked.proofs.Worked as worked
use Rattle.claims.proofs.Underneath as underneath
use Rattle.gorsepetal.proofs.EventContracts as event_contracts
use Rattle.files.proofs.Cut as cut
use Rattle.files.proofs.Joined as joined
use Rattle.files.proofs.Known as known
use Rattle.event_claims.proofs.One as event_one
use Rattle.event_claims.proofs.GivenBack as event_rows
use Rattle.event_claims.proofs.Files as event_files
use Rattle.event_claims.proofs.Ending as ending

pub gorsepetal : Gorsepetal
gorsepetal = record {
  propose_contract = contracts.propose_contract;
  confirm_contract = contracts.confirm_contract;
  read_back_contract = contracts.read_back_contract;
  decide_contract = contracts.decide_contract;
  feed_contract = contracts.feed_contract;
  decide_numbers_contract = contracts.decide_numbers_contract;
  window_bytes_contract = contracts.window_bytes_contract;
  events_open_contract = event_contracts.events_open_contract;
  events_wanted_contract = event_contracts.events_wanted_contract;
  events_read_contract = event_contracts.events_read_contract;
  events_end_contract = event_contracts.events_end_contract;
  events_write_contract = event_contracts.events_write_contract;
  one_proposed = one.one_proposed;
  one_confirmed = one.one_confirmed;
  one_read_back = one.one_read_back;
  one_decided = one.one_decided;
  one_fed = one.one_fed;
  one_decided_numbers = one.one_decided_numbers;
  one_events_opened = event_one.one_events_opened;
  one_events_wanted = event_one.one_events_wanted;
  one_events_read = event_one.one_events_read;
  one_events_ended = event_one.one_events_ended;
  one_events_written = event_one.one_events_written;
  number_and_place = one.number_and_place;
  propose_answers = given_back.propose_answers;
  confirm_answers = given_back.confirm_answers;
  read_back_answers = given_back.read_back_answers;
  decide_answers = given_back.decide_answers;
  feed_answers = frames.feed_answers;
  events_open_answers = event_rows.events_open_answers;
  events_read_answers = event_rows.events_read_answers;
  events_end_answers = event_rows.events_end_answers;
  events_write_answers = event_rows.events_write_answers;
  demand_1 = demand_1.demand_1;
  over_histories = demand_1.over_histories;
  firmware_hears = feeding.firmware_hears;
  hears_over_histories = feeding.hears_over_histories;
  kept_exactly = frames.kept_exactly;
  else_nothing_kept = frames.else_nothing_kept;
  fed_as_decided = frames.fed_as_decided;
  missing_in_frames = frames.missing_in_frames;
  place_falls = feeding.place_falls;
  refused_feed = frames.refused_feed;
  feed_leaves_settings = unmoved.feed_leaves_settings;
  read_leaves_settings = unmoved.read_leaves_settings;
  entries_leave_window = unmoved.entries_leave_window;
  window_does_not_matter = unmoved.window_does_not_matter;
  cut_anywhere = event_files.cut_anywhere;
  fed_by_hand = event_files.fed_by_hand_lem;
  written_read = event_files.written_read;
  read_written = event_files.read_written;
  read_is_fed = frames.read_is_fed;
  else_unfed = frames.else_unfed;
  hears_by_events = feeding.hears_by_events;
  zero_means = ending.zero_means;
  writes_record = event_files.writes_record;
  missing_mark = event_files.missing_mark_lem;
  refusals_end = ending.refusals_end;
  same_refusal = ending.same_refusal;
  feed_does_not_end = ending.feed_does_not_end;
  no_wrap = known.no_wrap;
  refused_read = ending.refused_read;
  refused_write = event_files.refused_write;
  no_reader_no_change = ending.no_reader_no_change;
  cut_over_width = cut.cut_anywhere;
  read_as_joined = joined.read_as_joined;
  joined_as_read = joined.joined_as_read;
  demand_2 = demand_2.demand_2;
  second_zone_has_first = second_zone.second_zone_has_first;
  other_bytes_stay = second_zone.other_bytes_stay;
  records_from_before = second_zone.records_from_before;
  balanced_fault = balanced.balanced_fault_lem;
  between_limits = balanced.between_limits;
  no_voltage = balanced.no_voltage;
  else_as_before = balanced.else_as_before;
  one_change = change.one_change;
  same_story = change.same_story;
  at_another_slope = change.at_another_slope;
  change_moves_three = change.change_moves_three;
  quadrilateral_has_reason = quadrilaterals.quadrilateral_has_reason;
  fault_told = quadrilaterals.fault_told;
  larger_r_keeps = quadrilaterals.larger_r_keeps;
  at_another_r = quadrilaterals.at_another_r;
  quadrilaterals_off = quadrilaterals.quadrilaterals_off;
  records_before_r = quadrilaterals.records_before_r;
  demand_3_first = demand_3.demand_3_first;
  demand_3_second = demand_3.demand_3_second;
  demand_3_of_change = demand_3.demand_3_of_change;
  trip_has_reason = demand_3.trip_has_reason;
  fault_trips = demand_3.fault_trips;
  through_does_not = demand_3.through_does_not;
  through_is_quiet = demand_3.through_is_quiet;
  which_rule = which_rule.which_rule;
  which_rule_over_histories = which_rule.which_rule_over_histories;
  which_rule_by_feeding = which_rule.which_rule_by_feeding;
  which_rule_by_events = which_rule.which_rule_by_events;
  which_record = which_rule.which_record;
  which_record_over_histories = which_rule.which_record_over_histories;
  said_twice_reads_back = which_rule.said_twice_reads_back;
  said_twice_decides = which_rule.said_twice_decides;
  said_twice_decides_by_feeding = which_rule.said_twice_decides_by_feeding;
  good_exactly = settings.good_exactly;
  fresh_has_nothing = settings.fresh_has_nothing;
  accepted_proposal = settings.accepted_proposal;
  accepted_confirmation = settings.accepted_confirmation;
  good_comes_into_force = settings.good_comes_into_force;
  reads_what_is_in_force = settings.reads_what_is_in_force;
  confirmed_reads_back = settings.confirmed_reads_back;
  refused_proposal = settings.refused_proposal;
  refused_confirmation = settings.refused_confirmation;
  no_third_entry = settings.no_third_entry;
  differs_at_first = settings.differs_at_first;
  missing_in_order = settings.missing_in_order;
  refused_read_back = settings.refused_read_back;
  refused_decide = settings.refused_decide;
  no_relay_no_change = settings.no_relay_no_change;
  not_zeroed = wrong_relays.not_zeroed;
  not_handed_out = wrong_relays.not_handed_out;
  by_offset = examples.by_offset;
  as_found = examples.as_found;
  mho_rule = distance.mho_rule;
  larger_reach = distance.larger_reach;
  no_polarising = distance.no_polarising;
  no_positive = distance.no_positive;
  quadrilateral_rule = quadrilateral.quadrilateral_rule;
  no_residual = quadrilateral.no_residual;
  larger_resistive_reach = quadrilateral.larger_resistive_reach;
  fault_equation = quadrilateral.fault_equation;
  none_below_pickup = direction.none_below_pickup;
  never_both = direction.never_both;
  forward_rule = direction.forward_rule;
  reverse_rule = direction.reverse_rule;
  operates_rule = rule.operates_rule;
  smaller_slope = differential.smaller_slope;
  none_at_100 = differential.none_at_100;
  never_too_small = differential.never_too_small;
  zero_window = differential.zero_window;
  one_slope_of_change = slope-of-change.one_slope_of_change;
  change_at_most_99 = slope-of-change.change_at_most_99;
  change_below_pickup = slope-of-change.change_below_pickup;
  hand_checks = hand_checks.hand_checks_lem;
  worked_decisions = worked.worked_decisions;
  paper_mill = paper_mill.paper_mill;
  named_window = used.named_window;
  band_is_used = used.band_is_used;
  one_count_is_false = used.one_count_is_false;
  rounded_once = underneath.rounded_once;
  roots_once = underneath.roots_once;
}
