-- Case S through the whole program, computed. Assumes nothing.
use mathlib.Core.Path.{refl}
use Rattle.protocol.specs.Machine.{step, read_at, confirmed_at, update_at, push_at, send_at, ask_at, receive_at, pull_at, accept_at, accept_with, serverdrop_at, batched}
use Rattle.text.specs.Field.{record_of, commas_of, after_commas, up_to_comma, field_of}
use Rattle.text.specs.Number.{digit_of, with_digit, next_digit, digits_from, leading_zero, decimal_of, positive_of, starts_minus, signed_of}
use Rattle.text.specs.Text.{decimal_in, decimal_text, is_negative, signed_text}
use Rattle.lines.specs.Lines.{last_of, init_of, ends_line, next_of, ended_in, unended_after, lines_of}
use Rattle.wording.specs.Values.{number_at, signed_at, update_name_of, update_by, update_field_at}
use Rattle.wording.specs.Names.{act_of, kind_of}
use Rattle.steps.specs.Parse.{pair_of, count_at, counts_of, counts_fit, step_of, parse_line}
use Rattle.answering.specs.Program.{start_from, answer_to, answers_to, output_of}
use Rattle.program.specs.CaseS.{CaseSAnswered}

pub case_s : CaseSAnswered
unfolding step read_at confirmed_at update_at push_at send_at ask_at receive_at pull_at accept_at accept_with serverdrop_at batched record_of commas_of after_commas up_to_comma field_of digit_of with_digit next_digit digits_from leading_zero decimal_of positive_of starts_minus signed_of decimal_in decimal_text is_negative signed_text last_of init_of ends_line next_of ended_in unended_after lines_of number_at signed_at update_name_of update_by update_field_at act_of kind_of pair_of count_at counts_of counts_fit step_of parse_line start_from answer_to answers_to output_of
case_s = refl
