mod Earning
