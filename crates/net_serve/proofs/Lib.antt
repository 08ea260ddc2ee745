mod Written
