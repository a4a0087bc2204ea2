-- `checking::check::is_record` meets its contract: its tests are the conditions on the words, which are those on the device.
use Rattle.std.proofs.Common.{rules, sym, ◌∙◌, arith}
use Rattle.words.proofs.Tests.{decides_iff, true_false}
use Rattle.checking.proofs.Fitting.{conditions_decide}
use Rattle.checking.proofs.check.is_record.Goals as goal
use Rattle.checking.proofs.check.is_record.Goals.{then-are_pending, else-are_pending, then-are_sheets, else-are_sheets, then-is_request, else-is_request, then-is_channel, else-is_channel, then-are_lengths, else-are_lengths, then-are_singles, else-are_singles}

pub returns-then-are_waiting : goal.returns-then-are_waiting
returns-then-are_waiting c = conditions_decide _ _ _ c.requires c.args.extent.few_devices c.args.extent.few_cells (decides_iff c.are_items.ensures (λ items.
    elim c.if-are_pending.branch [
      | then-are_pending a ↦
          elim c.if-are_sheets.branch [
            | then-are_sheets b ↦
                elim c.if-is_request.branch [
                  | then-is_request k ↦
                      elim c.if-is_channel.branch [
                        | then-is_channel d ↦
                            elim c.if-are_lengths.branch [
                              | then-are_lengths e ↦
                                  elim c.if-are_singles.branch [
                                    | then-are_singles f ↦ record {
                                      singles = c.are_singles.ensures.sure f.if-are_singles.true;
                                      lengths = f.are_lengths.ensures.sure (sym f.value-is ∙ e.if-are_lengths.true);
                                      channels = e.is_channel.ensures.sure (sym e.value-is ∙ d.if-is_channel.true);
                                      requests = d.is_request.ensures.sure (sym d.value-is ∙ k.if-is_request.true);
                                      sheets = k.are_sheets.ensures.sure (sym k.value-is ∙ b.if-are_sheets.true);
                                      pending = b.are_pending.ensures.sure (sym b.value-is ∙ a.if-are_pending.true);
                                      waiting = a.are_waiting.ensures.sure (sym a.value-is ∙ c.if-are_waiting.true);
                                      items = items;
                                    }
                                    | else-are_singles f ↦ true_false (sym e.if-are_lengths.true ∙ f.value-is ∙ f.if-are_singles.false)
                                  ]
                              | else-are_lengths e ↦ true_false (sym d.if-is_channel.true ∙ e.value-is ∙ e.if-are_lengths.false)
                            ]
                        | else-is_channel d ↦ true_false (sym k.if-is_request.true ∙ d.value-is ∙ d.if-is_channel.false)
                      ]
                  | else-is_request k ↦ true_false (sym b.if-are_sheets.true ∙ k.value-is ∙ k.if-is_request.false)
                ]
            | else-are_sheets b ↦ true_false (sym a.if-are_pending.true ∙ b.value-is ∙ b.if-are_sheets.false)
          ]
      | else-are_pending a ↦ true_false (sym c.if-are_waiting.true ∙ a.value-is ∙ a.if-are_pending.false)
    ]) (λ C. C.items))

pub returns-else-are_waiting : goal.returns-else-are_waiting
returns-else-are_waiting c = conditions_decide _ _ _ c.requires c.args.extent.few_devices c.args.extent.few_cells (search rules)
